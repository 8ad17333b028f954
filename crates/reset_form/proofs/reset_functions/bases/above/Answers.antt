-- One number more.
use Rattle.std.proofs.Common.{◌≡◌, ◌+◌, ◌<◌, ℕ, List, length, take, get_or, max, sym, subst, arith}
use Rattle.std.specs.List.{All}
use Rattle.std.proofs.lemmas.List.{take_all}
use Rattle.std.proofs.lemmas.List.Elements.{All-push, All-weaker}
use Rattle.std.proofs.lemmas.Option.{slice_get-get_or}
use Rattle.cbf_unfold.proofs.shift_variables.Assignments.{take_next}
use Rattle.reset_form.proofs.reset_functions.bases.above.Goals as goal

below_next : (xs : List ℕ) (i d above made x : ℕ) → i < length xs → x ≡ get_or xs i d → made ≡ max above (x + 1) → All (λ y. y < above) (take i xs) → All (λ y. y < made) (take (i + 1) xs)
below_next xs i d above made x inside own is below =
    subst (All (λ y. y < made)) (sym (take_next xs i (get_or xs i d) (slice_get-get_or xs i d inside)))
    (All-push (λ y. y < made) (take i xs) (get_or xs i d) (All-weaker (λ y. y < above) (λ y. y < made) (λ y h. omega (arith, h, is)) (take i xs) below) (omega (arith, is, own)))

pub loop-number-preserved : goal.loop-number-preserved
loop-number-preserved c = below_next c.args.numbers.now c.loop-number.number-index _ c.loop-number.above _ _ c.loop-number-test.true c.from.ensures c.greater-above.ensures c.loop-number.invariant

pub returns : goal.returns
returns c = subst (All (λ i. i < c.loop-number.above)) (take_all c.loop-number.number-index c.args.numbers.now c.loop-number-test.false) c.loop-number.invariant
