-- What is known stands, and there is something for each node so far.
use Rattle.std.proofs.Common.{◌≡◌, length}
use Rattle.sweep_candidates.specs.case_split.Under.{AreUnder}
use Rattle.sweep_candidates.proofs.case_split.case.part_of.Given as goal

abbrev pub invariant-loop-n : goal.invariant-loop-n
invariant-loop-n l = record {
  under : AreUnder l.graph l.var l.bit l.part.graph l.part.lits.items;
  each : length l.part.lits.items ≡ l.n;
}
