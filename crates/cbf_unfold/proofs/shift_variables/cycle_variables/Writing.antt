-- Bits that are written by the numbers of variables.
use Rattle.std.proofs.Common.{◌≡◌, ◌≢◌, ◌∙◌, ◌+◌, ℕ, Bool, List, [], ◌∷◌, ◌++◌, map, length, take, slice_get, Some, sym, ap, inl, inr}
use Rattle.std.specs.Prelude.{◌⊎◌}
use Rattle.std.specs.List.{AllPairs, Contains}
use Rattle.std.proofs.lemmas.List.{map-append}
use Rattle.circuit_theory.proofs.Lists.{Contains-map_from, at_of, length-map}
use Rattle.circuit_theory.proofs.Sums.{same_or_not}
use Rattle.base_tables.proofs.TableLemmas.{slice_get-take}
use Rattle.aig.proofs.Lists.{pairs_at}
use Rattle.pair_decide.specs.Queries.{assigned_to}
use Rattle.cbf_unfold.proofs.shift_variables.Assignments.{take_next, assigned_new, assigned_old, length_take}
use Rattle.cbf_unfold.specs.shift_variables.cycle_variables.Cycles.{number_of}

-- one number more has its bit, and the others keep theirs
put_next : (us : List ℕ) (bs : List Bool) (u n : ℕ) (bit old new : Bool) → length us ≡ length bs → (Contains us u → ⊥) → (u ≡ n → new ≡ bit) → ((u ≡ n → ⊥) → new ≡ old) → old ≡ assigned_to us bs n →
    new ≡ assigned_to (us ++ u ∷ []) (bs ++ bit ∷ []) n
put_next us bs u n bit old new sizes fresh here others before = go (same_or_not u n)
  where
    go : (u ≡ n) ⊎ (u ≢ n) → new ≡ assigned_to (us ++ u ∷ []) (bs ++ bit ∷ []) n
    go (inl e) = here e ∙ (sym (assigned_new us bs u bit sizes fresh) ∙ ap (λ m. assigned_to (us ++ u ∷ []) (bs ++ bit ∷ []) m) e)
    go (inr apart) = others apart ∙ (before ∙ sym (assigned_old us bs u n bit sizes apart))

module _ (places : List (ℕ × ℕ)) (vars : List ℕ) (bits : List Bool) (each : length vars ≡ length bits) (distinct : AllPairs (λ u v. number_of places u ≢ number_of places v) vars) (k v : ℕ) (bit : Bool)
    (at : slice_get vars k ≡ Some v) (bit_at : slice_get bits k ≡ Some bit) where
  numbers : ℕ → List ℕ
  numbers j = map (number_of places) (take j vars)

  numbers_next : numbers (k + 1) ≡ numbers k ++ number_of places v ∷ []
  unfolding numbers
  numbers_next = ap (map (number_of places)) (take_next vars k v at) ∙ map-append (number_of places) (take k vars) (v ∷ [])

  -- the number stands nowhere before
  fresh : Contains (numbers k) (number_of places v) → ⊥
  unfolding numbers
  fresh h =
      let u = Contains-map_from (number_of places) (take k vars) (number_of places v) h in
      let i = at_of (take k vars) u.0 u.1 in
      let before = slice_get-take k vars i.0 u.0 i.1 in
      pairs_at (λ u v. number_of places u ≢ number_of places v) vars i.0 k u.0 v distinct before.0 before.1 at u.2

  sizes : length (numbers k) ≡ length (take k bits)
  unfolding numbers
  sizes = length-map (number_of places) (take k vars) ∙ length_take k vars bits each

  pub written_next : (from i : ℕ) (old new : Bool) → (number_of places v ≡ from + i → new ≡ bit) → ((number_of places v ≡ from + i → ⊥) → new ≡ old) → old ≡ assigned_to (map (number_of places) (take k vars)) (take k bits) (from + i) →
      new ≡ assigned_to (map (number_of places) (take (k + 1) vars)) (take (k + 1) bits) (from + i)
  unfolding numbers
  written_next from i old new here others before =
      put_next (numbers k) (take k bits) (number_of places v) (from + i) bit old new sizes fresh here others before
      ∙ sym (ap (λ (us : List ℕ). assigned_to us (take (k + 1) bits) (from + i)) numbers_next ∙ ap (λ (bs : List Bool). assigned_to (numbers k ++ number_of places v ∷ []) bs (from + i)) (take_next bits k bit bit_at))
