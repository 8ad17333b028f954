-- Where what tells two classes apart stands.
use Rattle.std.proofs.Common.{◌≡◌, ◌∙◌, ◌+◌, ◌-◌, ◌*◌, ◌/◌, ℕ, zero, suc, refl, sym, ap, arith}
use Rattle.std.proofs.Math.Nat.{mul-suc, suc-mul}
use Rattle.event_classes.specs.Apart.{pairs_below}

step : (p n q : ℕ) → 2 * p + n ≡ q → 2 * (p + n) + suc n ≡ (q + n) + suc n
step p n q e = omega (arith, e)

twice : (n : ℕ) → 2 * pairs_below n + n ≡ n * n
twice zero = refl
twice (suc n) = step (pairs_below n) n (n * n) (twice n) ∙ (ap (λ (k : ℕ). k + suc n) (sym (mul-suc n n)) ∙ sym (suc-mul n (suc n)))

even : (p n q : ℕ) → 2 * p + n ≡ q → q + n ≡ 2 * (p + n)
even p n q e = omega (arith, e)

half : (x p : ℕ) → x ≡ 2 * p → p ≡ x / 2
half x p e = omega (arith, e)

pub pairs_are : (n : ℕ) → pairs_below n ≡ n * (n - 1) / 2
pairs_are zero = refl
pairs_are (suc n) =
    let before : suc n - 1 ≡ n = omega arith in
    half (suc n * (suc n - 1)) (pairs_below n + n) (ap (λ (k : ℕ). suc n * k) before ∙ (suc-mul n n ∙ even (pairs_below n) n (n * n) (twice n)))
