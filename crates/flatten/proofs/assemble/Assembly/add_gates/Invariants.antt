use Rattle.flatten.specs.Gated.{HasGates, IsRest}
use Rattle.flatten.proofs.assemble.Assembly.add_gates.Given as goal

abbrev pub invariant-loop-place : goal.invariant-loop-place
invariant-loop-place l = HasGates l.models l.flat l.wired l.order l.self.maker.net l.self.signals.items l.self.covers l.place × IsRest l.initial.self.maker l.self.maker
