-- Numbers that are written in decimal digits.
use Rattle.std.proofs.Common.{◌≡◌, ℕ, suc, zero, ◌<◌, ◌≤◌, ◌^◌, Bool, true, false, not, cond, ◌&&◌, List, [], ◌∷◌, length, drop, get_or, refl, ◌∙◌, ap, arith, rules, Some, None, inl, inr}
use Rattle.std.specs.Prelude.{◌⊎◌, nat_le, option_map}
use Rattle.std.specs.Fmt.{decimal}
use Rattle.std.specs.Str.{all_ascii_digits}
use Rattle.std.proofs.lemmas.Bool.{ne_eqb}
use Rattle.std.proofs.lemmas.Bool.Decides.{leb_tells}
use Rattle.std.proofs.lemmas.Fmt.{decimal_is_IsNumeral, decimal_nonempty, digits_decimal, digits_value-decimal}
use Rattle.std.proofs.lemmas.List.Elements.{All-cons, All-from_get_or}
use Rattle.std.proofs.lemmas.Str.Parse.{IsNumeralModel, numerals_by_fold, digit_at}
use Rattle.proof_check.specs.Literals.{Literal}
use Rattle.text_numbers.specs.Lines.{is_empty, begins_with}
use Rattle.text_numbers.specs.Numbers.{value_after, digits_value, is_size, size_of, negative, positive, number_of}
use Rattle.text_numbers.specs.declared.numbers.TheConstants.{MAX_SIZE}
use Rattle.lrat_core.specs.declared.dimacs_text.formula.TheConstants.{MAX_COUNT}
use Rattle.lrat_core.specs.declared.dimacs_text.entries.Entry.TheVariants as entry
use Rattle.lrat_core.specs.dimacs_text.Entries.{entry_from, entry_of}
use Rattle.lrat_core.specs.dimacs_text.Literals.{literal_of}
use Rattle.lrat_core.specs.dimacs_text.Dimacs.{counted, count_of}
use Rattle.lrat_core.specs.dimacs_text.dimacs_writer.Written.{literal_text}
use Rattle.lrat_core.proofs.dimacs_text.dimacs_writer.Lining.{Solid}

own : IsNumeralModel (λ ds. all_ascii_digits ds ≡ true) (value_after 0)
own = numerals_by_fold _ (search rules) value_after (search rules)

pub at_most : (n m : ℕ) → n ≤ m → nat_le n m ≡ true
at_most n m h = go (leb_tells n m)
  where
    go : ((nat_le n m ≡ true) × (n ≤ m)) ⊎ ((nat_le n m ≡ false) × (m < n)) → nat_le n m ≡ true
    go (inl k) = k.0
    go (inr k) = absurd (let z = k.1 in omega (arith, z, h))

module _ (n : ℕ) (small : n ≤ MAX_SIZE) where
  fits : n < 2 ^ 64
  fits = omega arith

  pub some_digits : 0 < length (decimal n)
  some_digits = decimal_nonempty n fits

  pub digit : (i : ℕ) → i < length (decimal n) → (48 ≤ get_or (decimal n) i 0) × (get_or (decimal n) i 0 ≤ 57)
  digit i h = let r = digit_at (decimal n) i (decimal_is_IsNumeral n fits).0.1 h in (omega (arith, r), omega (arith, r))

  pub solid_digits : Solid (decimal n)
  solid_digits = All-from_get_or (λ b. 33 ≤ b) (decimal n) 0 (λ i h. let r = digit i h in omega (arith, r))

  other_first : (c : ℕ) (ds : List ℕ) → 0 < length ds → (get_or ds 0 0 ≡ c → ⊥) → begins_with c ds ≡ false
  other_first c [] h k = absurd (omega (arith, h))
  other_first c (x ∷ xs) h k = ne_eqb x c k

  pub no_sign : begins_with 45 (decimal n) ≡ false
  no_sign = other_first 45 (decimal n) some_digits (λ e. let r = digit 0 some_digits in let z : ⊥ = omega (arith, r, e) in z)

  pub no_comment : begins_with 99 (decimal n) ≡ false
  no_comment = other_first 99 (decimal n) some_digits (λ e. let r = digit 0 some_digits in let z : ⊥ = omega (arith, r, e) in z)

  some_there : (ds : List ℕ) → 0 < length ds → is_empty ds ≡ false
  some_there [] h = absurd (omega (arith, h))
  some_there (x ∷ xs) h = refl

  value : value_after 0 (decimal n) ≡ n
  value = digits_value-decimal own n fits

  size : is_size (decimal n) ≡ true
  size =
      ap (λ b. not b && (all_ascii_digits (decimal n) && nat_le (digits_value (decimal n)) MAX_SIZE)) (some_there (decimal n) some_digits)
      ∙ (ap (λ b. b && nat_le (digits_value (decimal n)) MAX_SIZE) (digits_decimal own n fits) ∙ (ap (λ k. nat_le k MAX_SIZE) value ∙ at_most n MAX_SIZE small))

  pub size_is : size_of (decimal n) ≡ Some n
  size_is = ap (λ b. cond b (Some (digits_value (decimal n))) None) size ∙ ap Some value

  pub number_is : number_of (decimal n) ≡ Some (positive n)
  number_is = ap (λ b. cond b (negative (size_of (drop 1 (decimal n)))) (option_map positive (size_of (decimal n)))) no_sign ∙ ap (option_map positive) size_is

-- a count
pub count_is : (n : ℕ) → n ≤ 2 ^ 30 → count_of (decimal n) ≡ Some n
count_is n small = ap counted (number_is n (omega arith)) ∙ ap (λ b. cond b (Some n) None) (at_most n MAX_COUNT (omega arith))

-- a literal
module _ (l : Literal) (above : 0 < l.variable) (small : l.variable ≤ 2 ^ 30) where
  wide : l.variable ≤ MAX_SIZE
  wide = omega arith

  below : (n : ℕ) → 0 < n → negative (Some n) ≡ Some (record { size = n; is_negative = true })
  below zero h = absurd (omega (arith, h))
  below (suc n) h = refl

  pub literal_number : number_of (literal_text l) ≡ Some (record { size = l.variable; is_negative = not l.positive })
  literal_number = go l.positive
    where
      go : (b : Bool) → number_of (cond b (decimal l.variable) (45 ∷ decimal l.variable)) ≡ Some (record { size = l.variable; is_negative = not b })
      go true = number_is l.variable wide
      go false = ap negative (size_is l.variable wide) ∙ below l.variable above

  twice : literal_of (record { size = l.variable; is_negative = not l.positive }) ≡ l
  twice = go l.variable l.positive
    where
      go : (v : ℕ) (b : Bool) → literal_of (record { size = v; is_negative = not b }) ≡ record { variable = v; positive = b }
      go v true = refl
      go v false = refl

  pub literal_entry : (limit : ℕ) → l.variable ≤ limit → entry_of limit (literal_text l) ≡ Some (entry.Literal l)
  literal_entry limit within =
      ap (entry_from limit) literal_number
      ∙ (ap (λ b. cond b (Some entry.End) (cond (nat_le l.variable limit) (Some (entry.Literal (literal_of (record { size = l.variable; is_negative = not l.positive })))) None))
      (ne_eqb l.variable 0 (λ e. let z : ⊥ = omega (arith, above, e) in z))
      ∙ (ap (λ b. cond b (Some (entry.Literal (literal_of (record { size = l.variable; is_negative = not l.positive })))) None) (at_most l.variable limit within) ∙ ap (λ m. Some (entry.Literal m)) twice))

  pub literal_some : 0 < length (literal_text l)
  literal_some = go l.positive
    where
      go : (b : Bool) → 0 < length (cond b (decimal l.variable) (45 ∷ decimal l.variable))
      go true = some_digits l.variable wide
      go false = omega arith

  pub literal_solid : Solid (literal_text l)
  literal_solid = go l.positive
    where
      go : (b : Bool) → Solid (cond b (decimal l.variable) (45 ∷ decimal l.variable))
      go true = solid_digits l.variable wide
      go false = All-cons (λ b. 33 ≤ b) 45 (decimal l.variable) (omega arith) (solid_digits l.variable wide)

  pub literal_first : begins_with 99 (literal_text l) ≡ false
  literal_first = go l.positive
    where
      go : (b : Bool) → begins_with 99 (cond b (decimal l.variable) (45 ∷ decimal l.variable)) ≡ false
      go true = no_comment l.variable wide
      go false = refl
