-- Bits of words: of a complement and of an and.
use Rattle.std.proofs.Common.{◌≡◌, ℕ, ◌+◌, ◌-◌, ◌*◌, ◌/◌, ◌%◌, ◌^◌, ◌<◌, ◌⊎◌, inl, inr, false, sym, ◌∙◌, ap, arith}
use Rattle.std.specs.Prelude.{◌==◌, ◌&&◌, not, bit_and}
use Rattle.std.proofs.lemmas.Nat.{shr_split, shr_high, div_below, pow_pos, pow-add, mod_below, and_shr, and_mod}
use Rattle.aig.proofs.Literals.{parity}
use Rattle.aig.specs.lane_eval.Blocks.{complement, word_bit}

same-split : (w d p x q r h : ℕ) → q * d + r ≡ x → r < d → h + 1 + q ≡ 2 * p → w ≡ 2 * p * d → w - 1 - x ≡ h * d + (d - 1 - r)
same-split w d p x q r h whole small sum e =
    let prod : (h + 1 + q) * d ≡ w = ap (λ (n : ℕ). n * d) sum ∙ sym e in
    omega arith

-- the high part of a complement
shifted : (k w p x : ℕ) → w ≡ 2 * p * 2 ^ k → x < w → (x / 2 ^ k < 2 * p) × ((w - 1 - x) / 2 ^ k ≡ 2 * p - 1 - x / 2 ^ k)
shifted k w p x e below =
    let high : x / 2 ^ k < 2 * p = div_below x (2 ^ k) (2 * p) (pow_pos k) (omega (arith, e, below)) in
    let small : x % 2 ^ k < 2 ^ k = mod_below x (2 ^ k) (pow_pos k) in
    let same : w - 1 - x ≡ (2 * p - 1 - x / 2 ^ k) * 2 ^ k + (2 ^ k - 1 - x % 2 ^ k) = same-split w (2 ^ k) p x (x / 2 ^ k) (x % 2 ^ k) (2 * p - 1 - x / 2 ^ k) (shr_split x k) small (upto (2 * p) (x / 2 ^ k) high) e in
    (high, ap (λ (n : ℕ). n / 2 ^ k) same ∙ shr_high (2 * p - 1 - x / 2 ^ k) k (2 ^ k - 1 - x % 2 ^ k) (less (2 ^ k) (x % 2 ^ k) small))
  where
    upto : (m q : ℕ) → q < m → m - 1 - q + 1 + q ≡ m
    upto m q h = omega arith

    less : (d r : ℕ) → r < d → d - 1 - r < d
    less d r h = omega arith

-- a number and what it lacks to an odd one have different parities
odd-turned : (p q : ℕ) → q < 2 * p → ((2 * p - 1 - q) % 2 == 1) ≡ not (q % 2 == 1)
odd-turned p q h = by (parity q)
  where
    by : (q % 2 ≡ 0) ⊎ (q % 2 ≡ 1) → ((2 * p - 1 - q) % 2 == 1) ≡ not (q % 2 == 1)
    by (inl e) =
        let f : (2 * p - 1 - q) % 2 ≡ 1 = omega arith in
        ap (λ (r : ℕ). r == 1) f ∙ sym (ap (λ (r : ℕ). not (r == 1)) e)
    by (inr e) =
        let f : (2 * p - 1 - q) % 2 ≡ 0 = omega arith in
        ap (λ (r : ℕ). r == 1) f ∙ sym (ap (λ (r : ℕ). not (r == 1)) e)

-- a bit of the complement
pub word_bit-complement : (x j : ℕ) → x < 2 ^ 64 → j < 64 → word_bit (complement x) j ≡ not (word_bit x j)
unfolding word_bit
word_bit-complement x j below inside =
    let sum : 64 ≡ (1 + (63 - j)) + j = omega arith in
    let parts : 2 ^ 64 ≡ 2 * 2 ^ (63 - j) * 2 ^ j = ap (λ (n : ℕ). 2 ^ n) sum ∙ pow-add 2 (1 + (63 - j)) j ∙ ap (λ (n : ℕ). n * 2 ^ j) (pow-add 2 1 (63 - j)) in
    let s = shifted j (2 ^ 64) (2 ^ (63 - j)) x parts below in
    ap (λ (n : ℕ). n % 2 == 1) s.1 ∙ odd-turned (2 ^ (63 - j)) (x / 2 ^ j) s.0

odd-and : (m n : ℕ) → (bit_and m n % 2 == 1) ≡ ((m % 2 == 1) && (n % 2 == 1))
odd-and m n = ap (λ (r : ℕ). r == 1) (and_mod m n 1) ∙ by (m % 2) (n % 2) (parity m) (parity n)
  where
    by : (s t : ℕ) → (s ≡ 0) ⊎ (s ≡ 1) → (t ≡ 0) ⊎ (t ≡ 1) → (bit_and s t == 1) ≡ ((s == 1) && (t == 1))
    by s t (inl e) (inl f) = ap (λ (m : ℕ). bit_and m t == 1) e ∙ ap (λ (n : ℕ). bit_and 0 n == 1) f ∙ sym (ap (λ (m : ℕ). (m == 1) && (t == 1)) e)
    by s t (inl e) (inr f) = ap (λ (m : ℕ). bit_and m t == 1) e ∙ ap (λ (n : ℕ). bit_and 0 n == 1) f ∙ sym (ap (λ (m : ℕ). (m == 1) && (t == 1)) e)
    by s t (inr e) (inl f) = ap (λ (m : ℕ). bit_and m t == 1) e ∙ ap (λ (n : ℕ). bit_and 1 n == 1) f ∙ sym (ap (λ (n : ℕ). (1 == 1) && (n == 1)) f) ∙ sym (ap (λ (m : ℕ). (m == 1) && (t == 1)) e)
    by s t (inr e) (inr f) = ap (λ (m : ℕ). bit_and m t == 1) e ∙ ap (λ (n : ℕ). bit_and 1 n == 1) f ∙ sym (ap (λ (n : ℕ). (1 == 1) && (n == 1)) f) ∙ sym (ap (λ (m : ℕ). (m == 1) && (t == 1)) e)

-- a bit of the and
pub word_bit-and : (a b j : ℕ) → word_bit (bit_and a b) j ≡ (word_bit a j && word_bit b j)
unfolding word_bit
word_bit-and a b j = ap (λ (n : ℕ). n % 2 == 1) (and_shr a b j) ∙ odd-and (a / 2 ^ j) (b / 2 ^ j)

zero-shifted : (j : ℕ) → 0 / 2 ^ j ≡ 0
zero-shifted j = let pos : 0 < 2 ^ j = pow_pos j in omega arith

-- no bit of 0 is set
pub word_bit-zero : (j : ℕ) → word_bit 0 j ≡ false
unfolding word_bit
word_bit-zero j = ap (λ (n : ℕ). n % 2 == 1) (zero-shifted j)
