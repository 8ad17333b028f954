use Rattle.std.proofs.Common.{[], take}
use Rattle.elaborate.specs.Flat.{statement_of}
use Rattle.flatten.specs.connectivity.Wiring.{joined, reads_by}
use Rattle.flatten.specs.connectivity.Events.{IsNever, IsAt}
use Rattle.flatten.specs.connectivity.Tables.{IsOpenIn}
use Rattle.flatten.proofs.connectivity.drivers.undriven.Given as goal

abbrev pub invariant-loop-statement : goal.invariant-loop-statement
invariant-loop-statement l = IsNever (IsAt (joined (λ s. reads_by (statement_of [] s)) (take l.statement-index l.flat.statements)) (λ n. n) (IsOpenIn l.sources))
