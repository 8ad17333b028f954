use Rattle.std.proofs.Common.{◌≡◌, take}
use Rattle.net_assembly.specs.Shown.{with_outputs}
use Rattle.flatten.proofs.assemble.Assembly.add_outputs.Given as goal

abbrev pub invariant-loop-output : goal.invariant-loop-output
invariant-loop-output l =
    (l.self.maker ≡ record l.initial.self.maker { net = with_outputs l.flat.names l.initial.self.signals.items (take l.output-index l.flat.outputs) l.initial.self.maker.net })
    × (l.self.signals.items ≡ l.initial.self.signals.items)
