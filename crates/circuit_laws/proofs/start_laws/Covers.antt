-- What a cover gives three-valued bits is what it gives all bits that complete them.
use Rattle.std.proofs.Common.{◌≡◌, ℕ, Bool, true, false, cond, List, [], ◌∷◌, refl, sym, ◌∙◌, ap, subst, Option, Some, None}
use Rattle.std.specs.Prelude.{◌&&◌, ◌||◌, ◌==◌, not}
use Rattle.std.specs.List.{list_any}
use Rattle.circuit_theory.specs.Cover.{Cover, cover_value, place_matches, row_matches}
use Rattle.circuit_laws.specs.start_laws.Known.{FitsBit, Completes, three_not, three_and, three_or, place_three, row_three, rows_three, cover_three}
use Rattle.circuit_laws.specs.start_laws.Laws.{CoverForces}

fits_not : (k : Option Bool) (b : Bool) → FitsBit k b → FitsBit (three_not k) (not b)
fits_not None b h = tt
fits_not (Some x) b h = ap not h

and_false : (x : Bool) → (x && false) ≡ false
and_false true = refl
and_false false = refl

or_true : (x : Bool) → (x || true) ≡ true
or_true true = refl
or_true false = refl

fits_and : (k m : Option Bool) (x y : Bool) → FitsBit k x → FitsBit m y → FitsBit (three_and k m) (x && y)
fits_and (Some true) m x y h j = subst (λ z. FitsBit m (z && y)) (sym h) j
fits_and (Some false) m x y h j = ap (λ z. z && y) h
fits_and None None x y h j = tt
fits_and None (Some true) x y h j = tt
fits_and None (Some false) x y h j = ap (λ z. x && z) j ∙ and_false x

fits_or : (k m : Option Bool) (x y : Bool) → FitsBit k x → FitsBit m y → FitsBit (three_or k m) (x || y)
fits_or (Some true) m x y h j = ap (λ z. z || y) h
fits_or (Some false) m x y h j = subst (λ z. FitsBit m (z || y)) (sym h) j
fits_or None None x y h j = tt
fits_or None (Some false) x y h j = tt
fits_or None (Some true) x y h j = ap (λ z. x || z) j ∙ or_true x

fits_place : (place : ℕ) (k : Option Bool) (b : Bool) → FitsBit k b → FitsBit (place_three place k) (place_matches place b)
fits_place place None b h = pick (place == 45) (place == cond b 49 48)
  where
    pick : (t r : Bool) → FitsBit (cond t (Some true) None) (t || r)
    pick true r = refl
    pick false r = tt
fits_place place (Some x) b h = pick (place == 45) (place == cond b 49 48) (place == cond x 49 48) (ap (λ z. place == cond z 49 48) h)
  where
    pick : (t r s : Bool) → r ≡ s → FitsBit (cond t (Some true) (Some s)) (t || r)
    pick true r s e = refl
    pick false r s e = e

fits_row : (places : List ℕ) (ks : List (Option Bool)) (bits : List Bool) → Completes ks bits → FitsBit (row_three places ks) (row_matches places bits)
fits_row [] [] [] h = refl
fits_row [] [] (b ∷ bits) h = absurd h
fits_row [] (k ∷ ks) [] h = absurd h
fits_row [] (k ∷ ks) (b ∷ bits) h = refl
fits_row (p ∷ places) [] [] h = refl
fits_row (p ∷ places) [] (b ∷ bits) h = absurd h
fits_row (p ∷ places) (k ∷ ks) [] h = absurd h
fits_row (p ∷ places) (k ∷ ks) (b ∷ bits) h =
    fits_and (place_three p k) (row_three places ks) (place_matches p b) (row_matches places bits) (fits_place p k b h.0) (fits_row places ks bits h.1)

fits_rows : (rows : List (List ℕ)) (ks : List (Option Bool)) (bits : List Bool) → Completes ks bits → FitsBit (rows_three rows ks) (list_any (λ row. row_matches row bits) rows)
fits_rows [] ks bits h = refl
fits_rows (row ∷ rows) ks bits h =
    fits_or (row_three row ks) (rows_three rows ks) (row_matches row bits) (list_any (λ row. row_matches row bits) rows) (fits_row row ks bits h) (fits_rows rows ks bits h)

pub fits_cover : (c : Cover) (ks : List (Option Bool)) (bits : List Bool) → Completes ks bits → FitsBit (cover_three c ks) (cover_value c bits)
unfolding cover_value
fits_cover c ks bits h = pick c.on (rows_three c.rows ks) (list_any (λ row. row_matches row bits) c.rows) (fits_rows c.rows ks bits h)
  where
    pick : (t : Bool) (k : Option Bool) (b : Bool) → FitsBit k b → FitsBit (cond t k (three_not k)) (cond t b (not b))
    pick true k b e = e
    pick false k b e = fits_not k b e

pub cover_forces : CoverForces
cover_forces cover ks bit e bits h = subst (λ k. FitsBit k (cover_value cover bits)) e (fits_cover cover ks bits h)
