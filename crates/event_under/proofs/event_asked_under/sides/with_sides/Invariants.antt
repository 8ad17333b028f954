use Rattle.aig.specs.Graph.{Grows, IsGraph}
use Rattle.event_under.proofs.event_asked_under.WithSides.{AreMadeTo}
use Rattle.event_under.proofs.event_asked_under.sides.with_sides.Given as goal

abbrev pub invariant-loop-i : goal.invariant-loop-i
invariant-loop-i l = record {
  made : AreMadeTo l.lits l.aig l.asked l.under l.made.items l.i;
  graph : IsGraph l.aig;
  grows : Grows l.fn.aig l.aig;
}
