-- One place more.
use Rattle.std.proofs.Common.{◌∙◌, ℕ, List, [], ◌∷◌, ◌++◌, map, get_or, sym, ap}
use Rattle.std.specs.Prelude.{slice_index}
use Rattle.std.proofs.lemmas.List.{take_all, map_more}
use Rattle.flatten.proofs.connectivity.sources.twice.Goals as goal

pub loop-place-preserved : goal.loop-place-preserved
loop-place-preserved c =
    let at = c.args.at.now in
    let i = c.loop-place.place-index in
    c.in_ok-push.ensures.items ∙ ap (λ (z : List ℕ). z ++ slice_index at (get_or at i 0) ∷ []) c.loop-place.invariant ∙ sym (map_more (slice_index at) at i 0 c.loop-place-test.true)

pub returns : goal.returns
returns c = c.loop-place.invariant ∙ ap (map (slice_index c.args.at.now)) (take_all c.loop-place.place-index c.args.at.now c.loop-place-test.false)
