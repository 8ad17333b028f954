use Rattle.flat_net.specs.Comparable.{IsComparable}
use Rattle.job_after.proofs.others.shown_in_others.Given as goal

abbrev pub invariant-loop : goal.invariant-loop
invariant-loop g l = IsComparable l.others.left × IsComparable l.others.right
