use Rattle.std.proofs.Common.{◌≡◌}
use Rattle.net_assembly.proofs.Nexts.{HasNexts}
use Rattle.flatten.proofs.assemble.Assembly.set_nexts.Given as goal

abbrev pub invariant-loop-statement : goal.invariant-loop-statement
invariant-loop-statement l =
    HasNexts l.flat.statements l.initial.self.signals.items l.initial.self.maker l.self.maker l.statement-index × (l.self.signals.items ≡ l.initial.self.signals.items)
