use Rattle.std.proofs.Common.{[], take}
use Rattle.elaborate.specs.Flat.{kind_of}
use Rattle.flatten.specs.connectivity.Wiring.{joined, cell_by}
use Rattle.flatten.specs.connectivity.Events.{IsNever, IsAt}
use Rattle.flatten.specs.connectivity.Clocks.{ReadsNet}
use Rattle.flatten.proofs.connectivity.clocks.net_reader.Given as goal

abbrev pub invariant-loop-statement : goal.invariant-loop-statement
invariant-loop-statement l = IsNever (IsAt (joined (λ s. cell_by s.out s.reads (kind_of [] s.kind)) (take l.statement-index l.flat.statements)) (λ c. c.out) (λ c. ReadsNet l.nets l.net c.reads))
