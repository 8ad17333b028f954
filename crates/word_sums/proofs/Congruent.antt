-- Numbers that are one modulo 2^64.
use Rattle.std.proofs.Common.{◌≡◌, ℕ, ◌+◌, ◌*◌, ◌/◌, ◌%◌, ◌^◌, ◌<◌, refl, ap, arith}
use Rattle.word_sums.specs.Sums.{AreCongruent}

pub cong-is : {x y : ℕ} → x ≡ y → AreCongruent x y
cong-is e = record { left = 0; right = 0; same = omega (arith, e) }

pub cong-refl : (x : ℕ) → AreCongruent x x
cong-refl x = record { left = 0; right = 0; same = refl }

pub cong-sym : {x y : ℕ} → AreCongruent x y → AreCongruent y x
cong-sym c = record { left = c.right; right = c.left; same = omega (arith, c.same) }

pub cong-trans : {x y z : ℕ} → AreCongruent x y → AreCongruent y z → AreCongruent x z
cong-trans c d = record { left = c.left + d.left; right = c.right + d.right; same = omega (arith, c.same, d.same) }

pub cong-add : {x y u v : ℕ} → AreCongruent x y → AreCongruent u v → AreCongruent (x + u) (y + v)
cong-add c d = record { left = c.left + d.left; right = c.right + d.right; same = omega (arith, c.same, d.same) }

-- so many times each
pub cong-mul : (n : ℕ) {x y : ℕ} → AreCongruent x y → AreCongruent (n * x) (n * y)
cong-mul n c = record { left = n * c.left; right = n * c.right; same = omega (arith, ap (λ (z : ℕ). n * z) c.same) }

pub cong-mod : (x : ℕ) → AreCongruent (x % 2 ^ 64) x
cong-mod x = record { left = x / 2 ^ 64; right = 0; same = omega arith }

pub cong-cancel : {x y : ℕ} (n : ℕ) → AreCongruent (x + n) (y + n) → AreCongruent x y
cong-cancel n c = record { left = c.left; right = c.right; same = omega (arith, c.same) }

-- numbers below 2^64 that are one modulo 2^64 are one
pub cong-below : {x y : ℕ} → AreCongruent x y → x < 2 ^ 64 → y < 2 ^ 64 → x ≡ y
cong-below c p q = omega (arith, c.same, p, q)

-- a sum with one term more, so many times
pub cong-term : {t u : ℕ} (s n x y c b w : ℕ) → AreCongruent t (s + n * x) → AreCongruent w (n * c) → AreCongruent u (t + w * b) → y ≡ x + c * b → AreCongruent u (s + n * y)
cong-term s n x y c b w before times after e =
    let more = cong-mul b times in
    record {
      left = before.left + more.left + after.left;
      right = before.right + more.right + after.right;
      same = omega (arith, before.same, more.same, after.same, ap (λ (z : ℕ). n * z) e);
    }

-- both words with one bit more: the left one is added so many times as its weight says, and the right one as its negative
pub cong-words : {u v : ℕ} (s t n p x y x' y' b c w m : ℕ) → AreCongruent w (n * p) → AreCongruent (t + n * y) (s + n * x) → AreCongruent u (t + w * b) → AreCongruent v (u + m * c) →
    AreCongruent (m + w) 0 → x' ≡ x + p * b → y' ≡ y + p * c → AreCongruent (v + n * y') (s + n * x')
cong-words s t n p x y x' y' b c w m weight before first second negative e f =
    let at_left = cong-mul b weight in
    let at_right = cong-mul c weight in
    let none = cong-mul c negative in
    record {
      left = before.left + first.left + second.left + none.left + at_left.left + at_right.right;
      right = before.right + first.right + second.right + none.right + at_left.right + at_right.left;
      same = omega (arith, before.same, first.same, second.same, none.same, at_left.same, at_right.same, ap (λ (z : ℕ). n * z) e, ap (λ (z : ℕ). n * z) f);
    }

-- so many times what comes to 0
pub cong-none : {s t u : ℕ} (n : ℕ) → AreCongruent t (s + n * u) → AreCongruent u 0 → AreCongruent t s
cong-none n c z = let more = cong-mul n z in record { left = c.left + more.left; right = c.right + more.right; same = omega (arith, c.same, more.same) }
