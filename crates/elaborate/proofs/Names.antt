-- Flat names of distinct places are distinct.
use Rattle.std.proofs.Common.{◌≡◌, ℕ, ◌+◌, ◌/◌, ◌%◌, nat_lt, ◌==◌, ◌&&◌, not, Bool, true, false, true≢false, if◌then◌else◌, List, [], ◌∷◌, ◌++◌, decimal, refl, sym, ◌∙◌, ap, ap₂, arith, zero, suc, ne_eqb}
use Rattle.std.specs.List.{list_all}
use Rattle.std.specs.Fmt.{digits, digits_onto, digit_glyph}
use Rattle.std.proofs.lemmas.Bool.{and_parts}
use Rattle.std.proofs.lemmas.Fmt.{decimal_injective}
use Rattle.blif_read.specs.Kept.{is_plain}
use Rattle.blif_read.specs.Design.{Inside, Place, name_of, flat_name}
use Rattle.blif_read.proofs.Each.{Each}
use Rattle.elaborate.proofs.Items.{IsPlainStep, IsPlainPlace}

-- a plain name holds no `#`
hash_in : (a x : List ℕ) → is_plain (a ++ 35 ∷ x) ≡ true → ⊥
hash_in [] x h = true≢false (sym (and_parts (not (35 == 35)) (list_all (λ b. not (b == 35)) x) h).0)
hash_in (c ∷ a) x h = hash_in a x (and_parts (not (c == 35)) (list_all (λ b. not (b == 35)) (a ++ 35 ∷ x)) h).1

-- the first `#` parts a name in one way
split : (a b x y : List ℕ) → is_plain a ≡ true → is_plain b ≡ true → a ++ 35 ∷ x ≡ b ++ 35 ∷ y → (a ≡ b) × (x ≡ y)
split [] [] x y ha hb e = (refl, cc)
split [] (d ∷ b) x y ha hb e =
    let first : 35 ≡ d = cc in
    absurd (true≢false (sym (and_parts (not (d == 35)) (list_all (λ c. not (c == 35)) b) hb).0 ∙ ap (λ c. not (c == 35)) (sym first)))
split (c ∷ a) [] x y ha hb e =
    let first : c ≡ 35 = cc in
    absurd (true≢false (sym (and_parts (not (c == 35)) (list_all (λ d. not (d == 35)) a) ha).0 ∙ ap (λ d. not (d == 35)) first))
split (c ∷ a) (d ∷ b) x y ha hb e =
    let first : c ≡ d = cc in
    let rest : a ++ 35 ∷ x ≡ b ++ 35 ∷ y = cc in
    let parts = split a b x y (and_parts (not (c == 35)) (list_all (λ z. not (z == 35)) a) ha).1 (and_parts (not (d == 35)) (list_all (λ z. not (z == 35)) b) hb).1 rest in
    (ap₂ (λ z zs. z ∷ zs) first parts.0, parts.1)

glyph_plain : (d : ℕ) → not (digit_glyph false d == 35) ≡ true
glyph_plain d = by (nat_lt d 10)
  where
    by : (b : Bool) → not ((if b then 48 + d else 87 + d) == 35) ≡ true
    by true = ap not (ne_eqb (48 + d) 35 (λ e. absurd (omega (arith, e))))
    by false = ap not (ne_eqb (87 + d) 35 (λ e. absurd (omega (arith, e))))

plain_onto : (k n : ℕ) (xs : List ℕ) → is_plain xs ≡ true → is_plain (digits_onto k 10 false n xs) ≡ true
plain_onto zero n xs h = h
plain_onto (suc k) n xs h = by (n / 10 == 0) (plain_onto k (n / 10) (digit_glyph false (n % 10) ∷ xs) more) more
  where
    more : is_plain (digit_glyph false (n % 10) ∷ xs) ≡ true
    more = ap₂ (λ a b. a && b) (glyph_plain (n % 10)) h

    by : (b : Bool) → is_plain (digits_onto k 10 false (n / 10) (digit_glyph false (n % 10) ∷ xs)) ≡ true → is_plain (digit_glyph false (n % 10) ∷ xs) ≡ true →
        is_plain (if b then digit_glyph false (n % 10) ∷ xs else digits_onto k 10 false (n / 10) (digit_glyph false (n % 10) ∷ xs)) ≡ true
    by true rest one = one
    by false rest one = rest

-- a number holds no `#`
pub plain_decimal : (n : ℕ) → is_plain (decimal n) ≡ true
unfolding digits
plain_decimal n = plain_onto 64 n [] refl

pub same_flat : (p q : List Inside) (x y : List ℕ) → Each IsPlainStep p → Each IsPlainStep q → is_plain x ≡ true → is_plain y ≡ true → flat_name p x ≡ flat_name q y → (p ≡ q) × (x ≡ y)
same_flat [] [] x y hp hq hx hy e = (refl, e)
same_flat [] (t ∷ q) x y hp hq hx hy e = absurd (hash_in t.model (decimal t.instance ++ 35 ∷ flat_name q y) (ap is_plain (sym e) ∙ hx))
same_flat (s ∷ p) [] x y hp hq hx hy e = absurd (hash_in s.model (decimal s.instance ++ 35 ∷ flat_name p x) (ap is_plain e ∙ hy))
same_flat (s ∷ p) (t ∷ q) x y hp hq hx hy e =
    let models = split s.model t.model (decimal s.instance ++ 35 ∷ flat_name p x) (decimal t.instance ++ 35 ∷ flat_name q y) hp.0.0 hq.0.0 e in
    let numbers = split (decimal s.instance) (decimal t.instance) (flat_name p x) (flat_name q y) (plain_decimal s.instance) (plain_decimal t.instance) models.1 in
    let rest = same_flat p q x y hp.1 hq.1 hx hy numbers.1 in
    let step : s ≡ t = ap₂ (λ (m : List ℕ) (k : ℕ). record { model = m; instance = k }) models.0 (decimal_injective s.instance t.instance hp.0.1 hq.0.1 numbers.0) in
    (ap₂ (λ (z : Inside) (zs : List Inside). z ∷ zs) step rest.0, rest.1)

-- places of one flat name are one place
pub same_place : (p q : Place) → IsPlainPlace p → IsPlainPlace q → name_of p ≡ name_of q → p ≡ q
same_place p q hp hq e =
    let parts = same_flat p.path q.path p.name q.name hp.0 hq.0 hp.1 hq.1 e in
    ap₂ (λ (path : List Inside) (name : List ℕ). record { path = path; name = name }) parts.0 parts.1
