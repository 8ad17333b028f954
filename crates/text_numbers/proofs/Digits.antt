-- The number that digits spell.
use Rattle.std.proofs.Common.{◌≡◌, ℕ, suc, ◌+◌, ◌-◌, ◌*◌, ◌<◌, ◌≤◌, Bool, true, false, cond, ◌&&◌, List, [], ◌∷◌, length, get_or, drop, refl, sym, ◌∙◌, ap, arith, Option, Some, None, inl, inr}
use Rattle.std.specs.Prelude.{nat_le, ◌⊎◌}
use Rattle.std.specs.Char.{is_ascii_digit}
use Rattle.std.specs.Str.{all_ascii_digits}
use Rattle.std.proofs.Math.Seq.{drop-cons}
use Rattle.std.proofs.Math.ListN.{drop_of_length-le}
use Rattle.std.proofs.lemmas.Bool.{lt-leb}
use Rattle.std.proofs.lemmas.Bool.Decides.{leb_tells}
use Rattle.text_numbers.specs.declared.numbers.TheConstants.{MAX_SIZE}
use Rattle.text_numbers.specs.Numbers.{value_after, size_of}

-- the number of these digits behind a number, if all are digits and it isn't too great
abbrev pub size_after : ℕ → List ℕ → Option ℕ
size_after n digits = cond (all_ascii_digits digits && nat_le (value_after n digits) MAX_SIZE) (Some (value_after n digits)) None

-- digits behind a number make it no less
grows : (n : ℕ) (digits : List ℕ) → n ≤ value_after n digits
grows n [] = omega arith
grows n (d ∷ digits) = let h = grows (10 * n + (d - 48)) digits in omega (arith, h)

nothing : (a b : Bool) (n : ℕ) → b ≡ false → cond (a && b) (Some n) None ≡ None
nothing true b n e = ap (λ t. cond t (Some n) None) e
nothing false b n e = refl

-- the number is too great
pub too_great : (n : ℕ) (digits : List ℕ) (i : ℕ) → i < length digits → MAX_SIZE < 10 * n + (get_or digits i 0 - 48) → size_after n (drop i digits) ≡ None
too_great n digits i lt h =
    ap (size_after n) (drop-cons digits i 0 lt)
    ∙ nothing (all_ascii_digits (get_or digits i 0 ∷ drop (suc i) digits)) _ _
    (lt-leb (value_after n (get_or digits i 0 ∷ drop (suc i) digits)) MAX_SIZE (let g = grows (10 * n + (get_or digits i 0 - 48)) (drop (suc i) digits) in omega (arith, g, h)))
