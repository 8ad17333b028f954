-- The order by shifts.
use Rattle.std.proofs.Common.{◌≡◌, ℕ, ◌∙◌, ap, arith, inl, inr}
use Rattle.circuit_theory.specs.Query.{Variable, ShiftBefore}

pub shift_trans : (x y z : Variable ℕ) → ShiftBefore x y → ShiftBefore y z → ShiftBefore x z
shift_trans x y z (inl p) (inl q) = inl (omega arith)
shift_trans x y z (inl p) (inr q) = inl (omega (arith, q.0))
shift_trans x y z (inr p) (inl q) = inl (omega (arith, p.0))
shift_trans x y z (inr p) (inr q) = inr (p.0 ∙ q.0, omega (arith, p.1, q.1))

pub shift_apart : (x y : Variable ℕ) → ShiftBefore x y → x ≡ y → ⊥
shift_apart x y (inl below) e = omega (arith, ap (λ (z : Variable ℕ). z.at) e, below)
shift_apart x y (inr k) e = omega (arith, ap (λ (z : Variable ℕ). z.input) e, k.1)
