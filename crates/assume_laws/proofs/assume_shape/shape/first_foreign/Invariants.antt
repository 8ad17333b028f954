use Rattle.std.proofs.Common.{◌≡◌, ◌<◌, ℕ, slice_get, Some}
use Rattle.std.specs.List.{Contains}
use Rattle.sec_setup.specs.ports.flat_net.Port.{Port}
use Rattle.assume_laws.proofs.assume_shape.shape.first_foreign.Given as goal

abbrev pub invariant-loop-i : goal.invariant-loop-i
invariant-loop-i l = (j : ℕ) (p : Port) → j < l.i → slice_get l.c.inputs j ≡ Some p → Contains l.shared p.name
