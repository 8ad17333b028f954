use Rattle.std.proofs.Common.{◌≡◌, ◌<◌, ℕ, slice_get, Some}
use Rattle.flat_net.specs.declared.parts.Port.{Port}
use Rattle.net_names.proofs.laid.are_inputs_laid.Given as goal

abbrev pub invariant-loop-place : goal.invariant-loop-place
invariant-loop-place l = (i : ℕ) (p : Port) → slice_get l.ports i ≡ Some p → i < l.place → p.signal.0 ≡ i
