use Rattle.std.proofs.Common.{◌≡◌}
use Rattle.swept_queries.specs.node_agreement.Standing.{StandsFor, AreLocal, by_nodes}
use Rattle.swept_queries.proofs.node_agreement.facts.care_of.Given as goal

abbrev pub invariant-loop-i : goal.invariant-loop-i
invariant-loop-i l = record {
  local : AreLocal l.graph l.part.numbers.items l.small.graph l.small.lits.items;
  lits : l.small.lits.items ≡ l.initial.small.lits.items;
  care : StandsFor (by_nodes l.graph) l.graph l.small.graph 1 l.care.0;
}
