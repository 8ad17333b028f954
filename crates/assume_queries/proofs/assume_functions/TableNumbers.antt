-- The numbers of entries of a table at a place.
use Rattle.std.proofs.Common.{◌≡◌, ℕ, ◌≤◌, List, [], ◌∷◌, ◌++◌, length, get_or, slice_get, Some, sym, ◌∙◌, ap, arith, inl, inr}
use Rattle.std.specs.Prelude.{◌⊎◌}
use Rattle.std.proofs.lemmas.Option.{slice_get-get_or, slice_get_within}
use Rattle.aig.proofs.Insert.{push-cases}
use Rattle.cbf_unfold.specs.unfold_places.Reach.{Adds}
use Rattle.cbf_unfold.proofs.unfold_places.Lists.{adds_at}
use Rattle.assume_queries.specs.assume_functions.Functions.{AreNumbersAt}

module _ (own : List (ℕ × ℕ)) (place : ℕ) where
  -- one number more, in a table that has grown
  pub numbers_push : (old new : List (ℕ × ℕ)) (numbers more : List ℕ) (i n : ℕ) → length numbers ≡ i → Adds (λ p. Unit {0}) old new → AreNumbersAt own place old numbers →
      ((p : ℕ × ℕ) → slice_get own i ≡ Some p → slice_get new n ≡ Some (p.0, place)) → more ≡ numbers ++ n ∷ [] → AreNumbersAt own place new more
  numbers_push old new numbers more i n each adds are here is u v p at number = by (push-cases numbers n u v (ap (λ (ns : List ℕ). slice_get ns u) (sym is) ∙ number))
    where
      by : (slice_get numbers u ≡ Some v) ⊎ ((u ≡ length numbers) × (v ≡ n)) → slice_get new v ≡ Some (p.0, place)
      by (inl before) = adds_at (λ q. Unit {0}) old new v (p.0, place) adds (are u v p at before)
      by (inr (e, f)) = ap (slice_get new) f ∙ here p (ap (slice_get own) (sym (e ∙ each)) ∙ at)

  -- the number of an entry is in the table
  pub number_there : (table : List (ℕ × ℕ)) (numbers : List ℕ) → length own ≤ length numbers → AreNumbersAt own place table numbers → (u : ℕ) (p : ℕ × ℕ) → slice_get own u ≡ Some p →
      slice_get table (get_or numbers u 0) ≡ Some (p.0, place)
  number_there table numbers each are u p at = are u (get_or numbers u 0) p at (slice_get-get_or numbers u 0 (omega (arith, slice_get_within own u p at, each)))
