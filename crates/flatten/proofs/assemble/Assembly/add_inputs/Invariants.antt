use Rattle.std.proofs.Common.{◌≡◌}
use Rattle.net_assembly.proofs.Building.{HasInputs}
use Rattle.flatten.proofs.assemble.Assembly.add_inputs.Given as goal

abbrev pub invariant-loop-input : goal.invariant-loop-input
invariant-loop-input l =
    HasInputs l.flat.names l.clock l.flat.inputs l.initial.self.maker l.self.maker l.self.signals.items l.input-index × (l.self.covers ≡ l.initial.self.covers)
