-- The gate that drives a signal.
use Rattle.std.specs.Prelude.{ℕ, slice_get, Option, Some, None, option_and_then}
use Rattle.flat_net.specs.declared.parts.Driver.{Driver}
use Rattle.flat_net.specs.declared.parts.Driver.TheVariants as driver
use Rattle.flat_net.specs.View.{NetView}

-- the position of a gate that is a driver
abbrev pub gate_of : Driver → Option ℕ
gate_of (driver.Input i) = None
gate_of (driver.Gate j) = Some j
gate_of (driver.Latch j) = None

-- the position of the gate that drives the signal, where one does
abbrev pub gate_at : NetView → ℕ → Option ℕ
gate_at n s = option_and_then gate_of (slice_get n.drivers s)
