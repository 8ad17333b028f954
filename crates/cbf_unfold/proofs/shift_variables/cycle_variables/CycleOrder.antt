-- The order by cycles.
use Rattle.std.proofs.Common.{◌≡◌, ℕ, ◌∙◌, ap, arith, inl, inr}
use Rattle.circuit_theory.specs.Query.{Variable}
use Rattle.circuit_laws.specs.reset_laws.Reset.{CycleBefore}

pub cycle_trans : (x y z : Variable ℕ) → CycleBefore x y → CycleBefore y z → CycleBefore x z
cycle_trans x y z (inl p) (inl q) = inl (omega arith)
cycle_trans x y z (inl p) (inr q) = inl (omega (arith, q.0))
cycle_trans x y z (inr p) (inl q) = inl (omega (arith, p.0))
cycle_trans x y z (inr p) (inr q) = inr (p.0 ∙ q.0, omega (arith, p.1, q.1))

pub cycle_apart : (x y : Variable ℕ) → CycleBefore x y → x ≡ y → ⊥
cycle_apart x y (inl below) e = omega (arith, ap (λ (z : Variable ℕ). z.at) e, below)
cycle_apart x y (inr k) e = omega (arith, ap (λ (z : Variable ℕ). z.input) e, k.1)
