use Rattle.std.proofs.Common.{◌≤◌, ◌+◌, ◌-◌, length}
use Rattle.net_names.proofs.new_names.lengthen.Given as goal

abbrev pub invariant-loop-name : goal.invariant-loop-name
invariant-loop-name l = length l.initial.name.items ≤ length l.name.items

abbrev pub decreases-loop-name : goal.decreases-loop-name
decreases-loop-name l = l.least + 1 - length l.name.items
