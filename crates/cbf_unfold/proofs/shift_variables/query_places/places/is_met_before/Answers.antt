-- The pairs in the table are the variables.
use Rattle.std.proofs.Common.{◌≡◌, ◌-◌, ◌∙◌, ◌==◌, ℕ, true, false, List, get_or, slice_get, Some, sym, ap}
use Rattle.circuit_theory.specs.Query.{Variable}
use Rattle.circuit_theory.proofs.Inputs.{test_same, test_refl}
use Rattle.cbf_unfold.proofs.shift_variables.Reading.{pair_is}
use Rattle.cbf_unfold.specs.shift_variables.query_places.Places.{place_of}
use Rattle.cbf_unfold.proofs.shift_variables.query_places.places.is_met_before.Goals as goal

place_is : (table : List (ℕ × ℕ)) (v : ℕ) (p : ℕ × ℕ) → slice_get table v ≡ Some p → place_of table v ≡ p.1
place_is table v p at = ap (λ (x : Variable ℕ). x.at) (pair_is table v p at)

apart : (i j : ℕ) → (i == j) ≡ false → i ≡ j → ⊥
apart i j off e = let t : (i == i) ≡ true = test_refl i in let f : (i == j) ≡ (i == i) = ap (λ k. i == k) (sym e) in cc

pub returns-clause-same : goal.returns-clause-same
returns-clause-same c = λ e.
    place_is c.args.table.now (get_or c.args.vars.now (c.args.i - 1) 0) c.pair-before.result c.pair-before.ensures
    ∙ (test_same c.pair-before.result.1 c.pair-place.result.1 e ∙ sym (place_is c.args.table.now (get_or c.args.vars.now c.args.i 0) c.pair-place.result c.pair-place.ensures))

pub returns-clause-new : goal.returns-clause-new
returns-clause-new c = λ e some same.
    apart c.pair-before.result.1 c.pair-place.result.1 e
    (sym (place_is c.args.table.now (get_or c.args.vars.now (c.args.i - 1) 0) c.pair-before.result c.pair-before.ensures) ∙ (same ∙ place_is c.args.table.now (get_or c.args.vars.now c.args.i 0) c.pair-place.result c.pair-place.ensures))
