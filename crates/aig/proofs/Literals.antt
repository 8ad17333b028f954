-- Literals as numbers: the complement, and which node they are of.
use Rattle.std.proofs.Common.{◌≡◌, ℕ, ◌+◌, ◌-◌, ◌*◌, ◌/◌, ◌%◌, ◌<◌, ◌==◌, if◌then◌else◌, ◌⊎◌, inl, inr, ap, arith}
use Rattle.aig.specs.Graph.{flip}

-- a literal is its node or its complement
pub parity : (x : ℕ) → (x % 2 ≡ 0) ⊎ (x % 2 ≡ 1)
parity x = grind arith

pub flip-even : (x : ℕ) → x % 2 ≡ 0 → flip x ≡ x + 1
unfolding flip
flip-even x e = ap (λ (r : ℕ). if r == 0 then x + 1 else x - 1) e

pub flip-odd : (x : ℕ) → x % 2 ≡ 1 → flip x ≡ x - 1
unfolding flip
flip-odd x e = ap (λ (r : ℕ). if r == 0 then x + 1 else x - 1) e

-- both are of one node
pub flip-half : (x : ℕ) → flip x / 2 ≡ x / 2
flip-half x = by (parity x)
  where
    by : (x % 2 ≡ 0) ⊎ (x % 2 ≡ 1) → flip x / 2 ≡ x / 2
    by (inl e) = omega (arith, flip-even x e)
    by (inr e) = omega (arith, flip-odd x e)

pub flip-within : (x n : ℕ) → x < 2 * n → flip x < 2 * n
flip-within x n h = by (parity x)
  where
    by : (x % 2 ≡ 0) ⊎ (x % 2 ≡ 1) → flip x < 2 * n
    by (inl e) = omega (arith, flip-even x e)
    by (inr e) = omega (arith, flip-odd x e)

-- the complement's parity
pub flip-parity : (x : ℕ) → ((x % 2 ≡ 0) × (flip x % 2 ≡ 1)) ⊎ ((x % 2 ≡ 1) × (flip x % 2 ≡ 0))
flip-parity x = by (parity x)
  where
    by : (x % 2 ≡ 0) ⊎ (x % 2 ≡ 1) → ((x % 2 ≡ 0) × (flip x % 2 ≡ 1)) ⊎ ((x % 2 ≡ 1) × (flip x % 2 ≡ 0))
    by (inl e) = inl (e, omega (arith, flip-even x e))
    by (inr e) = inr (e, omega (arith, flip-odd x e))

-- the complement of the complement
pub flip-twice : (x : ℕ) → flip (flip x) ≡ x
flip-twice x = by (parity x)
  where
    by : (x % 2 ≡ 0) ⊎ (x % 2 ≡ 1) → flip (flip x) ≡ x
    by (inl e) = let up : flip x ≡ x + 1 = flip-even x e in let odd : flip x % 2 ≡ 1 = omega (arith, up, e) in omega (arith, flip-odd (flip x) odd, up)
    by (inr e) = let down : flip x ≡ x - 1 = flip-odd x e in let even : flip x % 2 ≡ 0 = omega (arith, down, e) in omega (arith, flip-even (flip x) even, down, e)
