use Rattle.std.proofs.Common.{◌≡◌, ◌++◌, [], take}
use Rattle.elaborate.specs.Flat.{kind_of}
use Rattle.flatten.specs.connectivity.Wiring.{joined, control_by}
use Rattle.flatten.proofs.connectivity.clocks.clock_signals.Given as goal

abbrev pub invariant-loop-statement : goal.invariant-loop-statement
invariant-loop-statement l = l.signals.items ≡ l.flat.clocks ++ joined (λ s. control_by (kind_of [] s.kind)) (take l.statement-index l.flat.statements)
