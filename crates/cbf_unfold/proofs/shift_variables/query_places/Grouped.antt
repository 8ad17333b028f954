-- Variables in order stand side by side where they have one place.
use Rattle.std.proofs.Common.{◌≡◌, ℕ, zero, suc, ◌<◌, ◌≤◌, List, slice_get, refl, sym, ◌∙◌, ap, arith, inl, inr}
use Rattle.std.specs.Prelude.{◌⊎◌}
use Rattle.std.specs.List.{AllPairs}
use Rattle.std.proofs.lemmas.Option.{same_Some}
use Rattle.circuit_theory.specs.Query.{Variable, ShiftBefore}
use Rattle.circuit_laws.specs.reset_laws.Reset.{CycleBefore}
use Rattle.cbf_unfold.specs.shift_variables.Variables.{variable_of}
use Rattle.aig.proofs.Lists.{pairs_at}
use Rattle.cbf_unfold.specs.shift_variables.query_places.Places.{place_of, AreGrouped}
use Rattle.cbf_unfold.specs.shift_variables.query_places.Laws.{VariablesAreGrouped}

here_or_before : (i j : ℕ) → i ≤ j → (i ≡ j) ⊎ (i < j)
here_or_before zero zero h = inl refl
here_or_before zero (suc j) h = inr (omega arith)
here_or_before (suc i) zero h = absurd (omega arith)
here_or_before (suc i) (suc j) h = elim (here_or_before i j (omega arith)) [ inl e ↦ inl (ap suc e) | inr k ↦ inr (omega (arith, k)) ]

module _ (table : List (ℕ × ℕ)) (vars : List ℕ) (before : Variable ℕ → Variable ℕ → Type 0) (ordered : AllPairs (λ u v. before (variable_of table u) (variable_of table v)) vars)
    (between : (x y z : Variable ℕ) → before x y → before y z → x.at ≡ z.at → y.at ≡ x.at) where
  grouped : AreGrouped table vars
  grouped i j k u v w first second at_i at_j at_k same = go (here_or_before i j first) (here_or_before j k second) ∙ same
    where
      go : (i ≡ j) ⊎ (i < j) → (j ≡ k) ⊎ (j < k) → place_of table v ≡ place_of table u
      go (inl e) other = ap (place_of table) (same_Some v u (sym at_j ∙ ap (slice_get vars) (sym e) ∙ at_i))
      go (inr l) (inl e) = ap (place_of table) (same_Some v w (sym at_j ∙ ap (slice_get vars) e ∙ at_k)) ∙ sym same
      go (inr l) (inr m) =
          between (variable_of table u) (variable_of table v) (variable_of table w) (pairs_at (λ x y. before (variable_of table x) (variable_of table y)) vars i j u v ordered l at_i at_j)
          (pairs_at (λ x y. before (variable_of table x) (variable_of table y)) vars j k v w ordered m at_j at_k) same

between_shifts : (x y z : Variable ℕ) → ShiftBefore x y → ShiftBefore y z → x.at ≡ z.at → y.at ≡ x.at
between_shifts x y z (inl a) (inl b) same = omega (arith, a, b, same)
between_shifts x y z (inl a) (inr b) same = omega (arith, a, b.0, same)
between_shifts x y z (inr a) b same = sym a.0

between_cycles : (x y z : Variable ℕ) → CycleBefore x y → CycleBefore y z → x.at ≡ z.at → y.at ≡ x.at
between_cycles x y z (inl a) (inl b) same = omega (arith, a, b, same)
between_cycles x y z (inl a) (inr b) same = omega (arith, a, b.0, same)
between_cycles x y z (inr a) b same = sym a.0

pub variables_are_grouped : VariablesAreGrouped
variables_are_grouped table vars = (λ o. grouped table vars ShiftBefore o.ordered between_shifts, λ o. grouped table vars CycleBefore o between_cycles)
