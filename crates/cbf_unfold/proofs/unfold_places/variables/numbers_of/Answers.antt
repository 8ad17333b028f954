-- Each input is in the table, which stays.
use Rattle.std.proofs.Common.{◌≡◌, ◌∙◌, ◌-◌, ◌+◌, ℕ, List, sym, ap, subst, take, get_or, slice_get, Some}
use Rattle.std.specs.List.{AllZip, Contains}
use Rattle.std.proofs.lemmas.List.Elements.{All-get_or}
use Rattle.cbf_unfold.proofs.unfold_places.InputLists.{zip_more}
use Rattle.cbf_unfold.proofs.unfold_places.variables.numbers_of.Goals as goal

pub number_of-requires-clause-known : goal.number_of-requires-clause-known
number_of-requires-clause-known c =
    let x : ℕ × ℕ = get_or c.args.inputs.now c.loop-input.input-index (0, 0) in
    subst (λ (t : List (ℕ × ℕ)). Contains t (x.1, c.args.last - x.0)) (sym c.loop-input.invariant.same)
    (All-get_or (λ (y : ℕ × ℕ). Contains c.args.table.now (y.1, c.args.last - y.0)) c.args.inputs.now c.loop-input.input-index (0, 0) c.loop-input-test.true c.requires.known)

pub loop-input-preserved : goal.loop-input-preserved
loop-input-preserved c =
    let R : ℕ → ℕ × ℕ → Type 0 = λ v x. slice_get c.args.table.now v ≡ Some (x.1, c.args.last - x.0) in
    record {
      same = c.number_of.ensures.same ∙ c.loop-input.invariant.same;
      numbers = subst (λ (l : List ℕ). AllZip R l (take (c.loop-input.input-index + 1) c.args.inputs.now)) (sym c.in_ok-push.ensures.items)
          (zip_more R c.loop-input.numbers.items c.args.inputs.now c.loop-input.input-index (0, 0) c.in_ok-number_of.field-0 c.loop-input-test.true c.loop-input.invariant.numbers
          (ap (λ (t : List (ℕ × ℕ)). slice_get t c.in_ok-number_of.field-0) (sym c.loop-input.invariant.same) ∙ c.in_ok-number_of.ensures.number));
    }
