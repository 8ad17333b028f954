use Rattle.std.proofs.Common.{map, take}
use Rattle.flatten.specs.connectivity.Events.{IsNever, IsAt}
use Rattle.flatten.specs.connectivity.Faults.{output_cell}
use Rattle.flatten.specs.connectivity.Clocks.{ReadsNet}
use Rattle.flatten.proofs.connectivity.clocks.output_of.Given as goal

abbrev pub invariant-loop-output : goal.invariant-loop-output
invariant-loop-output l = IsNever (IsAt (take l.output-index (map output_cell l.outputs)) (λ c. c.out) (λ c. ReadsNet l.nets l.net c.reads))
