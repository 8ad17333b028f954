use Rattle.std.proofs.Common.{◌≡◌, ℕ, List}
use Rattle.net_assembly.specs.Built.{CanTakeLatches}
use Rattle.net_assembly.proofs.Building.{HasLatches}
use Rattle.flatten.proofs.assemble.Assembly.add_latches.Given as goal

abbrev pub invariant-loop-statement : goal.invariant-loop-statement
invariant-loop-statement l =
    ((made : List ℕ) → CanTakeLatches l.flat made l.initial.self.maker.net l.initial.self.signals.items → HasLatches l.flat.names made l.flat.statements l.initial.self.maker.net l.self.maker.net l.self.signals.items l.statement-index)
    × (l.self.covers ≡ l.initial.self.covers)
