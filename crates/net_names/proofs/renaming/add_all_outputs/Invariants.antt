use Rattle.std.proofs.Common.{◌≡◌, take}
use Rattle.net_names.proofs.renaming.add_all_outputs.Given as goal

abbrev pub invariant-loop-port : goal.invariant-loop-port
invariant-loop-port l = l.maker ≡ record l.initial.maker { net = record l.initial.maker.net { outputs = take l.port-index l.net.outputs } }
