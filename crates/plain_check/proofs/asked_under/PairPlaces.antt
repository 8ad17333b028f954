-- The variables of a query over both sides of a pair, and their places.
use Rattle.std.proofs.Common.{◌≡◌, ℕ, List, [], ◌∷◌, ap, subst}
use Rattle.std.specs.Prelude.{◌↔◌}
use Rattle.std.specs.List.{Contains}
use Rattle.circuit_theory.specs.Query.{Variable, AreVariables}
use Rattle.circuit_theory.specs.Tree.{Tree}
use Rattle.circuit_theory.proofs.Lists.{Contains-map, Contains-map_from}
use Rattle.cbf_unfold.specs.shift_variables.Variables.{variable_of, variables_of}
use Rattle.cbf_unfold.specs.shift_variables.query_places.Places.{place_of, ArePlacesOf}
use Rattle.assume_laws.specs.Assume.{HasVariableAt}

module _ (before : Variable ℕ → Variable ℕ → Type 0) (places : List (ℕ × ℕ)) (vars : List ℕ) (left right : Tree ℕ) (are : AreVariables before (left ∷ right ∷ []) (variables_of places vars)) where
  -- a variable is read by one of both sides
  pub read_at : (v : ℕ) → Contains vars v → HasVariableAt left right (place_of places v)
  read_at v inside = let l = (are.exactly (variable_of places v)).0 (Contains-map (variable_of places) vars v inside) in (l.0, (variable_of places v).input, l.1, l.2)

  -- and what one of both sides reads at a place is a variable there
  pub variable_at : (k : ℕ) → HasVariableAt left right k → (v : ℕ) × Contains vars v × (place_of places v ≡ k)
  variable_at k (tree, i, one, stands) =
      let v = Contains-map_from (variable_of places) vars (record { input = i; at = k }) ((are.exactly (record { input = i; at = k })).1 (tree, one, stands)) in
      (v.0, v.1, ap (λ (z : Variable ℕ). z.at) v.2)

-- so the places of the variables are those that are read
pub places_read : (Read : ℕ → Type 0) (places : List (ℕ × ℕ)) (vars ks : List ℕ) → ArePlacesOf places vars ks → ((v : ℕ) → Contains vars v → Read (place_of places v)) → ((k : ℕ) → Read k → (v : ℕ) × Contains vars v × (place_of places v ≡ k)) →
    (k : ℕ) → Contains ks k ↔ Read k
places_read Read places vars ks are read found k = (
  λ m. let v = are.from k m in subst Read v.2 (read v.0 v.1),
  λ at. let v = found k at in subst (Contains ks) v.2 (are.all v.0 v.1),
)
