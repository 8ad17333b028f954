-- Bits of blocks.
use Rattle.std.proofs.Common.{◌≡◌, ℕ, ◌+◌, ◌-◌, ◌*◌, ◌/◌, ◌%◌, ◌^◌, ◌<◌, ◌≤◌, ◌⊎◌, inl, inr, Bool, true, false, List, length, get_or, refl, sym, ◌∙◌, ap, arith, subst}
use Rattle.std.specs.Prelude.{◌==◌, ◌&&◌, not, bit_and, All, replicate, Some, None}
use lib.Lanes.{zip2, Each1}
use mir.Syntax.{w64}
use mir.Val.{Fits}
use Rattle.std.proofs.lemmas.List.{get_or-map, length-map, get_or_past}
use Rattle.std.proofs.lemmas.Simd.{get_or-zip2, length-zip2, get_or-replicate, Each1-get_or}
use Rattle.std.proofs.lemmas.Nat.{and_le_l}
use Rattle.aig.proofs.Literals.{parity}
use Rattle.aig.proofs.Meaning.{lit_bit-even, lit_bit-odd}
use Rattle.aig.specs.Values.{lit_bit}
use Rattle.aig.specs.lane_eval.Blocks.{complement, flipped, turned, word_bit, block_bit, IsBlock, lane, IsFirstBit, IsFirstOf}
use Rattle.aig.proofs.lane_eval.Bits.{word_bit-complement, word_bit-and}

word-inside : (k : ℕ) → k < 512 → k / 64 < 8
word-inside k h = omega arith

bit-inside : (k : ℕ) → k % 64 < 64
bit-inside k = omega arith

-- a bit of a block that is complemented or not
pub block_bit-flipped : (flip : Bool) (b : List ℕ) (k : ℕ) → IsBlock b → k < 512 → block_bit (flipped flip b) k ≡ turned flip (block_bit b k)
unfolding block_bit
block_bit-flipped false b k is inside = refl
block_bit-flipped true b k is inside =
    ap (λ (w : ℕ). word_bit w (k % 64)) (get_or-map complement b (k / 64) 0 0 (omega (arith, is.eight, word-inside k inside)))
    ∙ word_bit-complement (get_or b (k / 64) 0) (k % 64) (is.fits (k / 64)) (bit-inside k)

pub length-flipped : (flip : Bool) (b : List ℕ) → length (flipped flip b) ≡ length b
length-flipped false b = refl
length-flipped true b = length-map b complement

-- a bit of the and of two
pub block_bit-and : (xs ys : List ℕ) (k : ℕ) → length xs ≡ 8 → length ys ≡ 8 → k < 512 → block_bit (zip2 bit_and xs ys) k ≡ (block_bit xs k && block_bit ys k)
unfolding block_bit
block_bit-and xs ys k left right inside =
    ap (λ (w : ℕ). word_bit w (k % 64)) (get_or-zip2 bit_and xs ys (k / 64) 0 0 0 (omega (arith, left, word-inside k inside)) (omega (arith, right, word-inside k inside)))
    ∙ word_bit-and (get_or xs (k / 64) 0) (get_or ys (k / 64) 0) (k % 64)

-- of two that may be complemented
pub block_bit-and_flipped : (f g : Bool) (xs ys : List ℕ) (k : ℕ) → IsBlock xs → IsBlock ys → k < 512 →
    block_bit (zip2 bit_and (flipped f xs) (flipped g ys)) k ≡ (turned f (block_bit xs k) && turned g (block_bit ys k))
block_bit-and_flipped f g xs ys k left right inside =
    block_bit-and (flipped f xs) (flipped g ys) k (length-flipped f xs ∙ left.eight) (length-flipped g ys ∙ right.eight) inside
    ∙ ap (λ (b : Bool). b && block_bit (flipped g ys) k) (block_bit-flipped f xs k left inside)
    ∙ ap (λ (b : Bool). turned f (block_bit xs k) && b) (block_bit-flipped g ys k right inside)

-- a literal's bit, by its node's block
pub lit_bit-lane : (blocks : List (List ℕ)) (x k : ℕ) (d : List ℕ) → x / 2 < length blocks → lit_bit (lane k blocks) x ≡ turned (x % 2 == 1) (block_bit (get_or blocks (x / 2) d) k)
lit_bit-lane blocks x k d inside = by (parity x)
  where
    at : get_or (lane k blocks) (x / 2) false ≡ block_bit (get_or blocks (x / 2) d) k
    at = get_or-map (λ b. block_bit b k) blocks (x / 2) d false inside

    by : (x % 2 ≡ 0) ⊎ (x % 2 ≡ 1) → lit_bit (lane k blocks) x ≡ turned (x % 2 == 1) (block_bit (get_or blocks (x / 2) d) k)
    by (inl e) = lit_bit-even (lane k blocks) x e ∙ at ∙ sym (ap (λ (r : ℕ). turned (r == 1) (block_bit (get_or blocks (x / 2) d) k)) e)
    by (inr e) = lit_bit-odd (lane k blocks) x e ∙ ap not at ∙ sym (ap (λ (r : ℕ). turned (r == 1) (block_bit (get_or blocks (x / 2) d) k)) e)

-- the and of two literals
pub lits-and : (blocks : List (List ℕ)) (l r k : ℕ) (c d : List ℕ) → All IsBlock blocks → l / 2 < length blocks → r / 2 < length blocks → k < 512 →
    block_bit (zip2 bit_and (flipped (l % 2 == 1) (get_or blocks (l / 2) c)) (flipped (r % 2 == 1) (get_or blocks (r / 2) d))) k ≡ (lit_bit (lane k blocks) l && lit_bit (lane k blocks) r)
lits-and blocks l r k c d each left right inside =
    block_bit-and_flipped (l % 2 == 1) (r % 2 == 1) (get_or blocks (l / 2) c) (get_or blocks (r / 2) d) k (each (l / 2) c left) (each (r / 2) d right) inside
    ∙ ap (λ (b : Bool). b && turned (r % 2 == 1) (block_bit (get_or blocks (r / 2) d) k)) (sym (lit_bit-lane blocks l k c left))
    ∙ ap (λ (b : Bool). lit_bit (lane k blocks) l && b) (sym (lit_bit-lane blocks r k d right))

-- bit j of word i
pub block_bit-at : (b : List ℕ) (i j : ℕ) → j < 64 → block_bit b (64 * i + j) ≡ word_bit (get_or b i 0) j
unfolding block_bit
block_bit-at b i j inside =
    let word : (64 * i + j) / 64 ≡ i = omega arith in
    let bit : (64 * i + j) % 64 ≡ j = omega arith in
    ap (λ (m : ℕ). word_bit (get_or b m 0) ((64 * i + j) % 64)) word ∙ ap (λ (n : ℕ). word_bit (get_or b i 0) n) bit

-- a block of one word
pub block_bit-splat : (w k : ℕ) → k < 512 → block_bit (replicate 8 w) k ≡ word_bit w (k % 64)
unfolding block_bit
block_bit-splat w k inside = ap (λ (x : ℕ). word_bit x (k % 64)) (get_or-replicate 8 (k / 64) w 0 (word-inside k inside))

-- the first bit of a word is the block's, where the words before have none
pub first-found : (b : List ℕ) (i j : ℕ) → i < 8 → ((k : ℕ) → k < 64 * i → block_bit b k ≡ true → ⊥) → IsFirstOf (get_or b i 0) (Some j) → IsFirstBit b (Some (64 * i + j))
first-found b i j inside before (small, set, least) =
    (omega arith, block_bit-at b i j small ∙ set, λ k below on. by k on (cases k) below)
  where
    cases : (k : ℕ) → (k < 64 * i) ⊎ (64 * i ≤ k)
    cases k = grind arith

    by : (k : ℕ) → block_bit b k ≡ true → (k < 64 * i) ⊎ (64 * i ≤ k) → k < 64 * i + j → ⊥
    by k on (inl l) below = before k l on
    by k on (inr g) below =
        let whole : 64 * i + (k - 64 * i) ≡ k = omega arith in
        least (k - 64 * i) (omega arith) (sym (block_bit-at b i (k - 64 * i) (omega arith)) ∙ ap (block_bit b) whole ∙ on)

-- a word without bits
pub none-more : (b : List ℕ) (i : ℕ) → ((k : ℕ) → k < 64 * i → block_bit b k ≡ true → ⊥) → IsFirstOf (get_or b i 0) None → (k : ℕ) → k < 64 * (i + 1) → block_bit b k ≡ true → ⊥
none-more b i before none k below on = by (cases k)
  where
    cases : (k : ℕ) → (k < 64 * i) ⊎ (64 * i ≤ k)
    cases k = grind arith

    by : (k < 64 * i) ⊎ (64 * i ≤ k) → ⊥
    by (inl l) = before k l on
    by (inr g) =
        let whole : 64 * i + (k - 64 * i) ≡ k = omega arith in
        none (k - 64 * i) (omega arith) (sym (block_bit-at b i (k - 64 * i) (omega arith)) ∙ ap (block_bit b) whole ∙ on)

-- a word of a block that is complemented or not
flipped-fits : (flip : Bool) (b : List ℕ) (i : ℕ) → (length b ≡ 8) × Each1 (Fits w64) b → i < 8 → get_or (flipped flip b) i 0 < 2 ^ 64
flipped-fits false b i (eight, fits) inside = let fit : Fits w64 (get_or b i 0) = Each1-get_or (Fits w64) b i 0 (omega (arith, eight)) fits in fit.fits
flipped-fits true b i (eight, fits) inside = omega (arith, get_or-map complement b i 0 0 (omega (arith, eight)))

-- the and of two is a block
pub and-block : (f g : Bool) (l r xs ys : List ℕ) → (length l ≡ 8) × Each1 (Fits w64) l → (length r ≡ 8) × Each1 (Fits w64) r → xs ≡ flipped f l → ys ≡ flipped g r → IsBlock (zip2 bit_and xs ys)
and-block f g l r xs ys left right e h = record { eight = len; fits = λ i. by i (cases i) }
  where
    long : length xs ≡ 8
    long = ap length e ∙ length-flipped f l ∙ left.0

    long' : length ys ≡ 8
    long' = ap length h ∙ length-flipped g r ∙ right.0

    len : length (zip2 bit_and xs ys) ≡ 8
    len = length-zip2 bit_and xs ys (long ∙ sym long') ∙ long

    cases : (i : ℕ) → (i < 8) ⊎ (8 ≤ i)
    cases i = grind arith

    by : (i : ℕ) → (i < 8) ⊎ (8 ≤ i) → get_or (zip2 bit_and xs ys) i 0 < 2 ^ 64
    by i (inl inside) =
        let at : get_or (zip2 bit_and xs ys) i 0 ≡ bit_and (get_or xs i 0) (get_or ys i 0) = get_or-zip2 bit_and xs ys i 0 0 0 (omega (arith, long)) (omega (arith, long')) in
        let fit : get_or xs i 0 < 2 ^ 64 = subst (λ (b : List ℕ). get_or b i 0 < 2 ^ 64) (sym e) (flipped-fits f l i left inside) in
        omega (arith, at, and_le_l (get_or xs i 0) (get_or ys i 0))
    by i (inr g) = subst (λ (w : ℕ). w < 2 ^ 64) (sym (get_or_past (zip2 bit_and xs ys) i 0 (omega (arith, len)))) (omega arith)
