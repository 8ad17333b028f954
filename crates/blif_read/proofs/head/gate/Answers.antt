use Rattle.blif_read.proofs.Gate.{gate_end}
use Rattle.std.proofs.Common.{rules, sym, false, true}
use Rattle.blif_read.proofs.head.gate.Goals as goal

pub returns-then-any_long : goal.returns-then-any_long
returns-then-any_long c = sym (gate_end c.args.none c.args.head c.args.args.now true (search rules) (search rules) (search rules))

pub returns : goal.returns
returns c = sym (gate_end c.args.none c.args.head c.args.args.now false (search rules) (search rules) (search rules))
