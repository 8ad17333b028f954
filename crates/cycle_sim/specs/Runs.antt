-- The run of a net from a power-up, by rows of inputs.
use Rattle.std.specs.Prelude.{◌≡◌, ℕ, Bool, true, false, List, [], ◌∷◌, length, map, replicate, slice_get, Some}
use Rattle.circuit_theory.specs.Run.{IsRun}
use Rattle.sec_base.specs.declared.basics.Init.{Init}
use Rattle.sec_base.specs.declared.basics.Init.TheVariants as init
use Rattle.flat_net.specs.declared.parts.LatchAt.{LatchAt}
use Rattle.flat_net.specs.View.{NetView, circuit_of}
use Rattle.cycle_sim.specs.declared.power.Power.{Power}
use Rattle.cycle_sim.specs.declared.power.Power.TheVariants as power

-- the values of so many latches in cycle 0
abbrev pub power_bits : ℕ → Power → List Bool
power_bits count power.Zeros = replicate count false
power_bits count power.Ones = replicate count true
power_bits count (power.Given bits) = bits

-- a power-up that is given has one bit for each latch
abbrev pub FitsLatches : ℕ → Power → Type 0
FitsLatches count power.Zeros = Unit {0}
FitsLatches count power.Ones = Unit {0}
FitsLatches count (power.Given bits) = length bits ≡ count

-- a latch's value in cycle 0: its initial value 0 or 1, and else this bit
abbrev pub initial_or : Init → Bool → Bool
initial_or init.Zero bit = false
initial_or init.One bit = true
initial_or init.DontCare bit = bit
initial_or init.Unknown bit = bit

-- the values of the latches in cycle 0, where these are the bits of those without an initial value 0 or 1
abbrev pub reset_bits : List LatchAt → List Bool → List Bool
reset_bits (l ∷ latches) (bit ∷ bits) = initial_or l.init bit ∷ reset_bits latches bits
reset_bits latches bits = []

-- A run of the net with one cycle for each row: the latches power up with these bits, in the net's order of latches, and the
-- inputs of each cycle are those of its row, in the net's order of inputs.
pub record IsRunFrom (n : NetView) (power : List Bool) (rows : List (List Bool)) (run : ℕ → ℕ → Bool) : Type 0 where
  pub is_run : IsRun (circuit_of n) (length rows) run
  pub powers_up : map (λ l. run 0 l.out.0) n.latches ≡ power
  pub takes : (t : ℕ) (row : List Bool) → slice_get rows t ≡ Some row → map (λ port. run t port.signal.0) n.inputs ≡ row
