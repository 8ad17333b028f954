-- Bits of numbers: the blocks of the variables of a table.
use Rattle.std.proofs.Common.{◌≡◌, ℕ, zero, suc, ◌+◌, ◌-◌, ◌*◌, ◌/◌, ◌%◌, ◌^◌, ◌<◌, ◌≤◌, ◌⊎◌, inl, inr, Bool, true, false, List, [], ◌∷◌, ◌++◌, length, take, set, get_or, refl, sym, ◌∙◌, ap, arith, true≢false, subst}
use Rattle.std.specs.Prelude.{◌==◌, ◌&&◌, not, if◌then◌else◌, All, replicate}
use Rattle.std.proofs.lemmas.Nat.{shr-shr, shr_high, shr_split, mod_below, pow_pos, pow-add}
use Rattle.std.proofs.lemmas.List.{map-append, take_more_set}
use Rattle.std.proofs.lemmas.List.Elements.{All-push}
use Rattle.aig.specs.circuit_theory.Query.{bits_of}
use Rattle.aig.specs.lane_eval.Blocks.{word_bit, block_bit, IsBlock, lane}
use Rattle.aig.proofs.lane_eval.Bits.{word_bit-complement, word_bit-zero}
use Rattle.aig.proofs.lane_eval.Lanes.{block_bit-splat}

-- bit j + 1 is bit j of the half
pub word_bit-half : (m j : ℕ) → word_bit m (suc j) ≡ word_bit (m / 2) j
unfolding word_bit
word_bit-half m j = let one : suc j ≡ 1 + j = omega arith in ap (λ (n : ℕ). (m / 2 ^ n) % 2 == 1) one ∙ sym (ap (λ (n : ℕ). n % 2 == 1) (shr-shr m 1 j))

pub word_bit-low : (m : ℕ) → word_bit m 0 ≡ (m % 2 == 1)
unfolding word_bit
word_bit-low m = let one : m / 2 ^ 0 ≡ m = omega arith in ap (λ (n : ℕ). n % 2 == 1) one

-- the bits of a number, and the next one
pub bits_of-push : (m count : ℕ) → bits_of m (count + 1) ≡ bits_of m count ++ word_bit m count ∷ []
bits_of-push m zero = ap (λ (b : Bool). b ∷ []) (sym (word_bit-low m))
bits_of-push m (suc count) =
    let one : suc count + 1 ≡ suc (count + 1) = omega arith in
    ap (bits_of m) one ∙ ap (λ (bs : List Bool). (m % 2 == 1) ∷ bs) (bits_of-push (m / 2) count)
    ∙ ap (λ (b : Bool). (m % 2 == 1) ∷ (bits_of (m / 2) count ++ b ∷ [])) (sym (word_bit-half m count))

-- a bit above the lanes of a block
pub word_bit-high : (number k j : ℕ) → 9 ≤ j → k < 512 → word_bit (512 * number + k) j ≡ (number / 2 ^ (j - 9) % 2 == 1)
unfolding word_bit
word_bit-high number k j above inside =
    let sum : j ≡ 9 + (j - 9) = omega arith in
    let high : (512 * number + k) / 2 ^ 9 ≡ number = omega arith in
    ap (λ (n : ℕ). ((512 * number + k) / 2 ^ n) % 2 == 1) sum ∙ sym (ap (λ (n : ℕ). n % 2 == 1) (shr-shr (512 * number + k) 9 (j - 9))) ∙ ap (λ (n : ℕ). (n / 2 ^ (j - 9)) % 2 == 1) high

div-of_sum : (a j k : ℕ) → (a * 2 ^ j + k) / 2 ^ j ≡ a + k / 2 ^ j
div-of_sum a j k = ap (λ (n : ℕ). n / 2 ^ j) (whole (2 ^ j) (k / 2 ^ j) (k % 2 ^ j) k (shr_split k j)) ∙ shr_high (a + k / 2 ^ j) j (k % 2 ^ j) (mod_below k (2 ^ j) (pow_pos j))
  where
    whole : (d q r k : ℕ) → q * d + r ≡ k → a * d + k ≡ (a + q) * d + r
    whole d q r k e = omega arith

-- a bit of the lane
pub word_bit-lane : (number k j : ℕ) → j < 9 → word_bit (512 * number + k) j ≡ word_bit k j
unfolding word_bit
word_bit-lane number k j below =
    let sum : 9 ≡ (1 + (8 - j)) + j = omega arith in
    let parts : 2 ^ 9 ≡ 2 * 2 ^ (8 - j) * 2 ^ j = ap (λ (n : ℕ). 2 ^ n) sum ∙ pow-add 2 (1 + (8 - j)) j ∙ ap (λ (n : ℕ). n * 2 ^ j) (pow-add 2 1 (8 - j)) in
    let same : 512 * number + k ≡ (2 * (number * 2 ^ (8 - j))) * 2 ^ j + k = shuffle number (2 ^ (8 - j)) (2 ^ j) parts in
    ap (λ (n : ℕ). (n / 2 ^ j) % 2 == 1) same ∙ ap (λ (n : ℕ). n % 2 == 1) (div-of_sum (2 * (number * 2 ^ (8 - j))) j k) ∙ ap (λ (r : ℕ). r == 1) (even (number * 2 ^ (8 - j)) (k / 2 ^ j))
  where
    even : (x y : ℕ) → (2 * x + y) % 2 ≡ y % 2
    even x y = omega arith

    shuffle : (number p d : ℕ) → 512 ≡ 2 * p * d → 512 * number + k ≡ (2 * (number * p)) * d + k
    shuffle number p d e = let h : 512 * number ≡ 2 * p * d * number = ap (λ (n : ℕ). n * number) e in omega arith

-- whether the bits of a block below some number are those of the lanes' numbers
agree : Bool → Bool → Bool
agree a b = if a then b else not b

are_lanes : ℕ → List ℕ → ℕ → Bool
are_lanes j b zero = true
are_lanes j b (suc k) = agree (block_bit b k) (word_bit k j) && are_lanes j b k

agree-same : (a b : Bool) → agree a b ≡ true → a ≡ b
unfolding agree
agree-same true true e = refl
agree-same true false e = sym e
agree-same false true e = e
agree-same false false e = refl

-- one variable more
pub variable-step : (blocks : List (List ℕ)) (n number : ℕ) (b : List ℕ) → n < length blocks → All IsBlock (take n blocks) → IsBlock b →
    ((k : ℕ) → k < 512 → lane k (take n blocks) ≡ bits_of (512 * number + k) n) → ((k : ℕ) → k < 512 → block_bit b k ≡ word_bit (512 * number + k) n) →
    All IsBlock (take (n + 1) (set blocks n b)) × ((k : ℕ) → k < 512 → lane k (take (n + 1) (set blocks n b)) ≡ bits_of (512 * number + k) (n + 1))
variable-step blocks n number b within each block done is =
    (subst (All IsBlock) (sym (take_more_set blocks n b within)) (All-push IsBlock (take n blocks) b each block), λ k inside. step k inside)
  where
    step : (k : ℕ) → k < 512 → lane k (take (n + 1) (set blocks n b)) ≡ bits_of (512 * number + k) (n + 1)
    step k inside =
        ap (lane k) (take_more_set blocks n b within) ∙ map-append (λ (b : List ℕ). block_bit b k) (take n blocks) (b ∷ [])
        ∙ ap (λ (c : Bool). lane k (take n blocks) ++ c ∷ []) (is k inside)
        ∙ ap (λ (bits : List Bool). bits ++ word_bit (512 * number + k) n ∷ []) (done k inside)
        ∙ sym (bits_of-push (512 * number + k) n)

and-true : (a b : Bool) → (a && b) ≡ true → (a ≡ true) × (b ≡ true)
and-true true true e = (refl, refl)
and-true true false e = absurd (true≢false (sym e))
and-true false b e = absurd (true≢false (sym e))

lanes-sound : (j : ℕ) (b : List ℕ) (n : ℕ) → are_lanes j b n ≡ true → (k : ℕ) → k < n → block_bit b k ≡ word_bit k j
unfolding are_lanes
lanes-sound j b zero e k below = absurd (omega arith)
lanes-sound j b (suc n) e k below = by (cases k n below) (lanes-sound j b n parts.1 k)
  where
    parts : (agree (block_bit b n) (word_bit n j) ≡ true) × (are_lanes j b n ≡ true)
    parts = and-true (agree (block_bit b n) (word_bit n j)) (are_lanes j b n) e

    cases : (k n : ℕ) → k < suc n → (k < n) ⊎ (n ≡ k)
    cases k n h = grind arith

    by : (k < n) ⊎ (n ≡ k) → (k < n → block_bit b k ≡ word_bit k j) → block_bit b k ≡ word_bit k j
    by (inl l) rest = rest l
    by (inr e) rest = subst (λ (m : ℕ). block_bit b m ≡ word_bit m j) e (agree-same (block_bit b n) (word_bit n j) parts.0)

are_variables : ℕ → List (List ℕ) → Bool
are_variables j [] = true
are_variables j (b ∷ blocks) = are_lanes j b 512 && are_variables (suc j) blocks

variables-sound : (j : ℕ) (blocks : List (List ℕ)) → are_variables j blocks ≡ true → (i k : ℕ) → i < length blocks → k < 512 → block_bit (get_or blocks i []) k ≡ word_bit k (j + i)
unfolding are_variables
variables-sound j [] e i k within inside = absurd (omega arith)
variables-sound j (b ∷ blocks) e zero k within inside =
    lanes-sound j b 512 (and-true (are_lanes j b 512) (are_variables (suc j) blocks) e).0 k inside ∙ ap (word_bit k) (let h : j ≡ j + 0 = omega arith in h)
variables-sound j (b ∷ blocks) e (suc i) k within inside =
    variables-sound (suc j) blocks (and-true (are_lanes j b 512) (are_variables (suc j) blocks) e).1 i k (omega arith) inside ∙ ap (word_bit k) (let h : suc j + i ≡ j + suc i = omega arith in h)

-- the blocks of the variables that tell the lanes apart
unfoldable pub low_blocks : List (List ℕ)
low_blocks =
    replicate 8 0xAAAA_AAAA_AAAA_AAAA ∷ replicate 8 0xCCCC_CCCC_CCCC_CCCC ∷ replicate 8 0xF0F0_F0F0_F0F0_F0F0 ∷ replicate 8 0xFF00_FF00_FF00_FF00 ∷ replicate 8 0xFFFF_0000_FFFF_0000 ∷ replicate 8 0xFFFF_FFFF_0000_0000
    ∷ (0 ∷ 0xFFFF_FFFF_FFFF_FFFF ∷ 0 ∷ 0xFFFF_FFFF_FFFF_FFFF ∷ 0 ∷ 0xFFFF_FFFF_FFFF_FFFF ∷ 0 ∷ 0xFFFF_FFFF_FFFF_FFFF ∷ [])
    ∷ (0 ∷ 0 ∷ 0xFFFF_FFFF_FFFF_FFFF ∷ 0xFFFF_FFFF_FFFF_FFFF ∷ 0 ∷ 0 ∷ 0xFFFF_FFFF_FFFF_FFFF ∷ 0xFFFF_FFFF_FFFF_FFFF ∷ [])
    ∷ (0 ∷ 0 ∷ 0 ∷ 0 ∷ 0xFFFF_FFFF_FFFF_FFFF ∷ 0xFFFF_FFFF_FFFF_FFFF ∷ 0xFFFF_FFFF_FFFF_FFFF ∷ 0xFFFF_FFFF_FFFF_FFFF ∷ [])
    ∷ []

low-are : are_variables 0 low_blocks ≡ true
unfolding are_variables low_blocks are_lanes agree block_bit word_bit
low-are = refl

low-length : length low_blocks ≡ 9
unfolding low_blocks
low-length = refl

-- a variable of the table's first nine
pub low-bit : (r : List ℕ) (number j k : ℕ) → j < 9 → k < 512 → r ≡ get_or low_blocks j [] → block_bit r k ≡ word_bit (512 * number + k) j
low-bit r number j k below inside is =
    ap (λ (b : List ℕ). block_bit b k) is ∙ variables-sound 0 low_blocks low-are j k (omega (arith, low-length)) inside ∙ ap (word_bit k) (let h : 0 + j ≡ j = omega arith in h) ∙ sym (word_bit-lane number k j below)

-- another variable
pub high-bit : (r s : List ℕ) (bit : Bool) (number j k : ℕ) → 9 ≤ j → k < 512 → r ≡ s → ((k : ℕ) → k < 512 → block_bit s k ≡ bit) → bit ≡ (number / 2 ^ (j - 9) % 2 == 1) → block_bit r k ≡ word_bit (512 * number + k) j
high-bit r s bit number j k above inside is set e = ap (λ (b : List ℕ). block_bit b k) is ∙ set k inside ∙ e ∙ sym (word_bit-high number k j above inside)

pub splat-set : (w k : ℕ) → k < 512 → w ≡ 0xFFFF_FFFF_FFFF_FFFF → block_bit (replicate 8 w) k ≡ true
splat-set w k inside e = block_bit-splat w k inside ∙ ap (λ (x : ℕ). word_bit x (k % 64)) e ∙ word_bit-complement 0 (k % 64) (omega arith) (omega arith) ∙ ap not (word_bit-zero (k % 64))

pub splat-clear : (w k : ℕ) → k < 512 → w ≡ 0 → block_bit (replicate 8 w) k ≡ false
splat-clear w k inside e = block_bit-splat w k inside ∙ ap (λ (x : ℕ). word_bit x (k % 64)) e ∙ word_bit-zero (k % 64)
