-- Each leaf is in the table, which stays.
use Rattle.std.proofs.Common.{◌≡◌, ◌∙◌, ◌+◌, ℕ, List, sym, ap, subst, take, get_or, slice_get, Some}
use Rattle.std.specs.List.{AllZip, Contains}
use Rattle.std.proofs.lemmas.List.Elements.{All-get_or}
use Rattle.cbf_unfold.proofs.unfold_places.InputLists.{zip_more}
use Rattle.reset_form.proofs.reset_unfold.leaves.numbers_of.Goals as goal

pub number_of-requires-clause-known : goal.number_of-requires-clause-known
number_of-requires-clause-known c =
    let x : ℕ × ℕ = get_or c.args.leaves.now c.loop-leaf.leaf-index (0, 0) in
    subst (λ (t : List (ℕ × ℕ)). Contains t (x.1, x.0)) (sym c.loop-leaf.invariant.same)
    (All-get_or (λ (y : ℕ × ℕ). Contains c.args.table.now (y.1, y.0)) c.args.leaves.now c.loop-leaf.leaf-index (0, 0) c.loop-leaf-test.true c.requires.known)

pub loop-leaf-preserved : goal.loop-leaf-preserved
loop-leaf-preserved c =
    let R : ℕ → ℕ × ℕ → Type 0 = λ v x. slice_get c.args.table.now v ≡ Some (x.1, x.0) in
    record {
      same = c.number_of.ensures.same ∙ c.loop-leaf.invariant.same;
      numbers = subst (λ (l : List ℕ). AllZip R l (take (c.loop-leaf.leaf-index + 1) c.args.leaves.now)) (sym c.in_ok-push.ensures.items)
          (zip_more R c.loop-leaf.numbers.items c.args.leaves.now c.loop-leaf.leaf-index (0, 0) c.in_ok-number_of.field-0 c.loop-leaf-test.true c.loop-leaf.invariant.numbers
          (ap (λ (t : List (ℕ × ℕ)). slice_get t c.in_ok-number_of.field-0) (sym c.loop-leaf.invariant.same) ∙ c.in_ok-number_of.ensures.number));
    }
