use Rattle.std.proofs.Common.{◌≡◌, take}
use Rattle.net_names.proofs.new_names.add_input_names.Given as goal

abbrev pub invariant-loop-s : goal.invariant-loop-s
invariant-loop-s l = l.names ≡ take l.s l.net.names
