-- One number more.
use Rattle.std.proofs.Common.{◌≡◌, ◌∙◌, ℕ, ◌<◌, List, [], ◌∷◌, ◌++◌, map, take, get_or, ◌+◌, length, sym, ap, arith}
use Rattle.std.proofs.lemmas.List.{take_more, map-append}
use Rattle.std.proofs.lemmas.Option.{get_or_from_slice_get}
use Rattle.job_under.proofs.ties.judging.numbers_of.Goals as goal

pub loop-v-preserved : goal.loop-v-preserved
loop-v-preserved c =
    let places = c.args.places.now in
    let v = c.loop-v.v in
    let first : ℕ × ℕ → ℕ = λ p. p.0 in
    let y = c.pair-number.result.0 in
    let there : get_or places v (0, 0) ≡ c.pair-number.result = get_or_from_slice_get places v c.pair-number.result (0, 0) c.pair-number.ensures in
    let more = take_more places v (0, 0) (omega (arith, c.loop-v-test.true, c.len-v-end.ensures)) in
    let image : map first (take (v + 1) places) ≡ map first (take v places) ++ y ∷ [] = ap (map first) more ∙ (map-append first (take v places) (get_or places v (0, 0) ∷ []) ∙ ap (λ (z : ℕ × ℕ). map first (take v places) ++ first z ∷ []) there) in
    c.in_ok-push.ensures.items ∙ (ap (λ ys. ys ++ y ∷ []) c.loop-v.invariant ∙ sym image)
