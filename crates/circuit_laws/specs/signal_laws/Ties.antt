-- Ties: what a correspondence of the signals of two circuits says of the values of one cycle.
use Rattle.std.specs.Prelude.{◌≡◌, ℕ, ◌-◌, nat_lt, Bool, not, if◌then◌else◌, List, slice_get, Some}
use Rattle.circuit_theory.specs.Joined.{Either, Left, Right}
use Rattle.circuit_laws.specs.declared.signal_laws.anchor.Anchor.{Anchor}
use Rattle.circuit_laws.specs.declared.signal_laws.anchor.Anchor.TheVariants as anchor

-- the signal at a place, where so many signals of A stand before those of B
abbrev pub side_at : ℕ → ℕ → Either ℕ ℕ
side_at size p = if nat_lt p size then Left p else Right (p - size)

-- the anchor's value, where places have these
abbrev pub anchor_value : (ℕ → Bool) → Anchor → Bool
anchor_value v (anchor.Bit bit) = bit
anchor_value v (anchor.Place q flipped) = if flipped then not (v q) else v q

-- The ties hold of the values of a cycle: each signal has the value of its anchor. A signal that is its own anchor is tied to nothing.
abbrev pub AreTied : ℕ → List Anchor → (Either ℕ ℕ → Bool) → Type 0
AreTied size anchors x = (p : ℕ) (k : Anchor) → slice_get anchors p ≡ Some k → x (side_at size p) ≡ anchor_value (λ q. x (side_at size q)) k
