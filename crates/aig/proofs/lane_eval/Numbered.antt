-- Numbers and their bits, the lowest first, and the assignments that they give.
use Rattle.std.proofs.Common.{◌≡◌, ◌≢◌, ℕ, zero, suc, ◌+◌, ◌*◌, ◌/◌, ◌%◌, ◌^◌, ◌<◌, Bool, true, false, cond, List, [], ◌∷◌, length, map, get_or, slice_get, Some, refl, sym, ◌∙◌, ap, arith, pow-suc}
use Rattle.std.specs.Prelude.{◌==◌, if◌then◌else◌}
use Rattle.std.specs.List.{AllPairs}
use Rattle.std.proofs.lemmas.Bool.{eq-eqb}
use Rattle.std.proofs.lemmas.Bool.Decides.{Decides-eqb}
use Rattle.std.proofs.lemmas.List.{get_or-map}
use Rattle.std.proofs.lemmas.Option.{none-some, same_Some, slice_get_within, get_or_from_slice_get}
use Rattle.aig.specs.circuit_theory.Query.{bits_of}
use Rattle.aig.specs.lane_eval.Tables.{assigned_to}

-- the number of a list of bits
abbrev pub number_of : List Bool → ℕ
number_of [] = 0
number_of (b ∷ bits) = cond b 1 0 + 2 * number_of bits

pub bits_of-number_of : (bits : List Bool) → bits_of (number_of bits) (length bits) ≡ bits
bits_of-number_of [] = refl
bits_of-number_of (true ∷ bits) =
    let low : (1 + 2 * number_of bits) % 2 ≡ 1 = omega arith in
    let high : (1 + 2 * number_of bits) / 2 ≡ number_of bits = omega arith in
    let ih = bits_of-number_of bits in
    rw (low, high) (ap (λ (bs : List Bool). true ∷ bs) ih)
bits_of-number_of (false ∷ bits) =
    let low : (0 + 2 * number_of bits) % 2 ≡ 0 = omega arith in
    let high : (0 + 2 * number_of bits) / 2 ≡ number_of bits = omega arith in
    let ih = bits_of-number_of bits in
    rw (low, high) (ap (λ (bs : List Bool). false ∷ bs) ih)

pub number_of-below : (bits : List Bool) → number_of bits < 2 ^ length bits
number_of-below [] = omega arith
number_of-below (true ∷ bits) = let ih = number_of-below bits in rw pow-suc (omega arith)
number_of-below (false ∷ bits) = let ih = number_of-below bits in rw pow-suc (omega arith)

pub bits_of-length : (m count : ℕ) → length (bits_of m count) ≡ count
bits_of-length m zero = refl
bits_of-length m (suc count) = ap suc (bits_of-length (m / 2) count)

-- different numbers are no test's equals
apart-eqb : (u v : ℕ) → u ≢ v → (u == v) ≡ false
apart-eqb u v apart = by (u == v) refl
  where
    by : (b : Bool) → (u == v) ≡ b → (u == v) ≡ false
    by true e = absurd (apart ((Decides-eqb u v).0 e))
    by false e = e

-- distinct variables have their bits
pub assigned_to-at : (vars : List ℕ) (bits : List Bool) → AllPairs (λ u v. u ≢ v) vars → length bits ≡ length vars → (k v : ℕ) → slice_get vars k ≡ Some v → get_or bits k false ≡ assigned_to vars bits v
assigned_to-at [] bits pairs each k v at = absurd (none-some v at)
assigned_to-at (u ∷ us) [] pairs each k v at = absurd (let e : 0 ≡ suc (length us) = each in omega arith)
assigned_to-at (u ∷ us) (bit ∷ bits) pairs each zero v at = sym (ap (λ (t : Bool). if t then bit else assigned_to us bits v) (eq-eqb u v (same_Some u v at)))
assigned_to-at (u ∷ us) (bit ∷ bits) pairs each (suc k) v at =
    let rest : length bits ≡ length us = let e : suc (length bits) ≡ suc (length us) = each in omega arith in
    let inside : k < length us = slice_get_within us k v at in
    let apart : u ≢ v = λ e. pairs 0 (suc k) v (omega arith) (omega arith) (e ∙ sym (get_or_from_slice_get us k v v at)) in
    assigned_to-at us bits (λ i j d below within. pairs (suc i) (suc j) d (omega arith) (omega arith)) rest k v at ∙ sym (ap (λ (t : Bool). if t then bit else assigned_to us bits v) (apart-eqb u v apart))

-- the variables' bits under an assignment
pub map-at : (vars : List ℕ) (a : ℕ → Bool) (k v : ℕ) → slice_get vars k ≡ Some v → get_or (map a vars) k false ≡ a v
map-at vars a k v at = get_or-map a vars k 0 false (slice_get_within vars k v at) ∙ ap a (get_or_from_slice_get vars k v 0 at)
