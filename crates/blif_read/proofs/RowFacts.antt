-- What a row gives.
use Rattle.std.proofs.Common.{◌≡◌, ℕ, Bool, true, false, ◌&&◌, ◌||◌, List, [], ◌∷◌, length, refl, sym, arith, inl, inr, get_or, ◌==◌, nat_lt}
use Rattle.std.specs.List.{list_all}
use Rattle.std.proofs.lemmas.Bool.{eqb-true}
use Rattle.std.proofs.lemmas.List.Sums.{AllPass-from_list_all}
use Rattle.blif_read.specs.blif_lines.sec_base.Cover.{IsPlace, IsCube}
use Rattle.blif_read.specs.Rows.{is_row, is_place, places_of, is_output}

pub both_left : (a b : Bool) → (a && b) ≡ true → a ≡ true
both_left true b h = refl
both_left false b h = h

pub both_right : (a b : Bool) → (a && b) ≡ true → b ≡ true
both_right true b h = h
both_right false b h = cc

is_place_byte : (b : ℕ) → is_place b ≡ true → IsPlace b
is_place_byte b h = go (b == 48) (b == 49) (b == 45) refl refl refl h
  where
    go : (x y z : Bool) → (b == 48) ≡ x → (b == 49) ≡ y → (b == 45) ≡ z → ((x || y) || z) ≡ true → IsPlace b
    go true y z e f g h = inl (eqb-true b 48 e)
    go false true z e f g h = inr (inl (eqb-true b 49 f))
    go false false true e f g h = inr (inr (eqb-true b 45 g))
    go false false false e f g h = cc

-- the places of a row are one for each fan-in
pub cube_of_row : (width : ℕ) (tokens : List (List ℕ)) → is_row width tokens ≡ true → IsCube width (places_of tokens)
cube_of_row width [] h = cc
cube_of_row width (out ∷ []) h = (sym (eqb-true width 0 (both_left (width == 0) (is_output out) h)), λ k d less. absurd (omega arith))
cube_of_row width (places ∷ out ∷ []) h =
    let first = both_left (nat_lt 0 width && (length places == width) && list_all is_place places) (is_output out) h in
    let second = both_left (nat_lt 0 width && (length places == width)) (list_all is_place places) first in
    let third = both_right (nat_lt 0 width) (length places == width) second in
    let passes = AllPass-from_list_all is_place places (both_right (nat_lt 0 width && (length places == width)) (list_all is_place places) first) in
    (eqb-true (length places) width third, λ k d less. is_place_byte (get_or places k d) (passes k d less))
cube_of_row width (a ∷ b ∷ c ∷ rest) h = cc
