-- Places beside their literals.
use Rattle.std.proofs.Common.{◌≡◌, ◌≢◌, ◌∙◌, ◌<◌, ℕ, suc, zero, List, [], ◌∷◌, ◌++◌, length, map, get_or, slice_get, Some, refl, sym, ap, subst, arith}
use Rattle.std.specs.Prelude.{Contains}
use Rattle.std.specs.List.{zip, AllPairs}
use Rattle.std.proofs.lemmas.Option.{slice_get-get_or, slice_get_within, same_Some, none-some}
use Rattle.std.proofs.lemmas.Slice.Zip.{firsts-zip, length-zip}
use Rattle.circuit_theory.proofs.Lists.{Contains-map, of_at}
use Rattle.base_tables.specs.unique_table.Places.{StandOnce}
use Rattle.base_tables.proofs.unique_table.Keys.{all-differ}

-- what stands at a number of both lists
pub zip_at : {X : Type 0} (ps : List (ℕ × ℕ)) (xs : List X) (i : ℕ) (p : ℕ × ℕ) (x : X) → slice_get ps i ≡ Some p → slice_get xs i ≡ Some x → slice_get (zip ps xs) i ≡ Some (p, x)
zip_at [] xs i p x at other = absurd (none-some p at)
zip_at (q ∷ ps) [] i p x at other = absurd (none-some x other)
zip_at {X} (q ∷ ps) (y ∷ xs) zero p x at other = ap (λ (r : ℕ × ℕ). let e : (ℕ × ℕ) × X = (r, y) in Some e) (same_Some q p at) ∙ ap (λ (z : X). let e : (ℕ × ℕ) × X = (p, z) in Some e) (same_Some y x other)
zip_at (q ∷ ps) (y ∷ xs) (suc i) p x at other = zip_at ps xs i p x at other

-- one entry more
pub zip_push : {X : Type 0} (ps : List (ℕ × ℕ)) (xs : List X) (p : ℕ × ℕ) (x : X) → length xs ≡ length ps → zip (ps ++ p ∷ []) (xs ++ x ∷ []) ≡ zip ps xs ++ (p, x) ∷ []
zip_push [] [] p x same = refl
zip_push [] (y ∷ xs) p x same = absurd (omega (arith, same))
zip_push (q ∷ ps) [] p x same = absurd (omega (arith, same))
zip_push {X} (q ∷ ps) (y ∷ xs) p x same =
    let rest : length xs ≡ length ps = omega (arith, same) in
    ap (λ (es : List ((ℕ × ℕ) × X)). (q, y) ∷ es) (zip_push ps xs p x rest)

module _ {X : Type 0} (ps : List (ℕ × ℕ)) (xs : List X) (each : length xs ≡ length ps) where
  pub entries_differ : StandOnce ps → AllPairs (λ p q. p ≢ q) (map (λ (e : (ℕ × ℕ) × X). e.0) (zip ps xs))
  entries_differ once = subst (λ (qs : List (ℕ × ℕ)). AllPairs (λ p q. p ≢ q) qs) (sym (firsts-zip ps xs each)) (all-differ ps once)

  -- an entry with the number has its place and a literal
  pub entry_at : (i : ℕ) (p : ℕ × ℕ) (d : X) → slice_get ps i ≡ Some p → (x : X) × (slice_get (zip ps xs) i ≡ Some (p, x))
  entry_at i p d at =
      let inside : i < length xs = omega (arith, slice_get_within ps i p at, each) in
      let there = slice_get-get_or xs i d inside in
      (get_or xs i d, zip_at ps xs i p (get_or xs i d) at there)

  -- a place that isn't among the places has no entry
  pub no_entry : (p : ℕ × ℕ) → (Contains ps p → ⊥) → Contains (map (λ (e : (ℕ × ℕ) × X). e.0) (zip ps xs)) p → ⊥
  no_entry p absent there = absent (subst (λ (qs : List (ℕ × ℕ)). Contains qs p) (firsts-zip ps xs each) there)

  -- a place that has no entry isn't among the places
  pub new_place : (p : ℕ × ℕ) → (Contains (map (λ (e : (ℕ × ℕ) × X). e.0) (zip ps xs)) p → ⊥) → Contains ps p → ⊥
  new_place p absent there = absent (subst (λ (qs : List (ℕ × ℕ)). Contains qs p) (sym (firsts-zip ps xs each)) there)

  -- the place of an entry is among the places
  pub entry_place : (p : ℕ × ℕ) (x : X) → Contains (zip ps xs) (p, x) → Contains ps p
  entry_place p x there = subst (λ (qs : List (ℕ × ℕ)). Contains qs p) (firsts-zip ps xs each) (Contains-map (λ (e : (ℕ × ℕ) × X). e.0) (zip ps xs) (p, x) there)

  pub entries_length : length (zip ps xs) ≡ length ps
  entries_length = omega (arith, length-zip ps xs, each)

  -- the entry of a place that was found
  pub entry_of : (i : ℕ) (p : ℕ × ℕ) (x : X) → slice_get ps i ≡ Some p → x ≡ get_or xs i x → Contains (zip ps xs) (p, x)
  entry_of i p x at is =
      let inside : i < length xs = omega (arith, slice_get_within ps i p at, each) in
      of_at (zip ps xs) i (p, x) (zip_at ps xs i p x at (slice_get-get_or xs i x inside ∙ ap Some (sym is)))
