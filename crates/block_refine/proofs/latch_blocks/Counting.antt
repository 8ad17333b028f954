-- A split leaves fewer pairs in one block.
use Rattle.std.proofs.Common.{◌≡◌, ◌≢◌, ◌<◌, ◌≤◌, ◌⊎◌, ℕ, suc, zero, Bool, List, length, if◌then◌else◌, sym, ap, subst, arith, inl, inr}
use Rattle.std.proofs.lemmas.Bool.Decides.{eqb_tells}
use Rattle.std.proofs.lemmas.Bool.{eq-eqb, ne_eqb}
use Rattle.block_refine.specs.latch_blocks.Blocks.{block_at}
use Rattle.block_refine.specs.latch_blocks.Laws.{sum_to, is_alike, pairs_alike, SplitRefines, SplitHasFewerPairs}
use Rattle.block_refine.proofs.latch_blocks.Numbering.{below_or_here}

sum_le : (f g : ℕ → ℕ) (n : ℕ) → ((i : ℕ) → i < n → f i ≤ g i) → sum_to f n ≤ sum_to g n
sum_le f g zero each = omega arith
sum_le f g (suc n) each =
    let rest = sum_le f g n (λ i less. each i (omega arith)) in
    let here = each n (omega arith) in
    omega (arith, rest, here)

sum_less : (f g : ℕ → ℕ) (n i : ℕ) → i < n → f i < g i → ((k : ℕ) → k < n → f k ≤ g k) → sum_to f n < sum_to g n
sum_less f g zero i less lower each = absurd (omega arith)
sum_less f g (suc n) i less lower each = go (below_or_here i n (omega (arith, less))) (λ k. sum_less f g n i k lower (λ m l. each m (omega arith)))
  where
    go : (i < n) ⊎ (i ≡ n) → (i < n → sum_to f n < sum_to g n) → sum_to f (suc n) < sum_to g (suc n)
    go (inl k) later = let rest = later k in let here = each n (omega arith) in omega (arith, rest, here)
    go (inr e) later =
        let rest = sum_le f g n (λ m l. each m (omega arith)) in
        let here : f n < g n = subst (λ m. f m < g m) e lower in
        omega (arith, rest, here)

alike_one : (blocks : List ℕ) (i j : ℕ) → block_at blocks i ≡ block_at blocks j → is_alike blocks i j ≡ 1
alike_one blocks i j e = ap {B = ℕ} (λ (b : Bool). if b then 1 else 0) (eq-eqb (block_at blocks i) (block_at blocks j) e)

alike_none : (blocks : List ℕ) (i j : ℕ) → block_at blocks i ≢ block_at blocks j → is_alike blocks i j ≡ 0
alike_none blocks i j n = ap {B = ℕ} (λ (b : Bool). if b then 1 else 0) (ne_eqb (block_at blocks i) (block_at blocks j) n)

alike_le : (blocks fine : List ℕ) (i j : ℕ) → (block_at fine i ≡ block_at fine j → block_at blocks i ≡ block_at blocks j) → is_alike fine i j ≤ is_alike blocks i j
alike_le blocks fine i j coarser =
    elim (eqb_tells (block_at fine i) (block_at fine j)) [
      | inl e ↦ let one = alike_one fine i j e.1 in let two = alike_one blocks i j (coarser e.1) in omega (arith, one, two)
      | inr n ↦ let none = alike_none fine i j n.1 in omega (arith, none)
    ]

pub split_refines : SplitRefines
split_refines blocks fine bits split i j a b e = ((split.same i j a b).0 e).0

pub split_has_fewer_pairs : SplitHasFewerPairs
split_has_fewer_pairs blocks fine bits split i j a b same apart =
    subst (λ n. sum_to (λ p. sum_to (is_alike fine p) n) n < pairs_alike blocks) (sym split.each)
    (sum_less (λ p. sum_to (is_alike fine p) (length blocks)) (λ p. sum_to (is_alike blocks p) (length blocks)) (length blocks) i a
    (sum_less (is_alike fine i) (is_alike blocks i) (length blocks) j b lower (λ q l. each i a q l))
    (λ p k. sum_le (is_alike fine p) (is_alike blocks p) (length blocks) (λ q l. each p k q l)))
  where
    each : (p : ℕ) → p < length blocks → (q : ℕ) → q < length blocks → is_alike fine p q ≤ is_alike blocks p q
    each p k q l = alike_le blocks fine p q (split_refines blocks fine bits split p q k l)

    lower : is_alike fine i j < is_alike blocks i j
    lower =
        let none = alike_none fine i j (λ e. apart ((split.same i j a b).0 e).1) in
        let one = alike_one blocks i j same in
        omega (arith, none, one)
