use Rattle.std.proofs.Common.{[], take}
use Rattle.elaborate.specs.Flat.{kind_of}
use Rattle.flatten.specs.connectivity.Wiring.{joined, typed_by}
use Rattle.flatten.proofs.connectivity.ClockTables.{HaveEdge}
use Rattle.flatten.proofs.connectivity.clocks.other_edge.Given as goal

abbrev pub invariant-loop-statement : goal.invariant-loop-statement
invariant-loop-statement l = HaveEdge (joined (λ s. typed_by s.out (kind_of [] s.kind)) (take l.statement-index l.flat.statements)) l.first
