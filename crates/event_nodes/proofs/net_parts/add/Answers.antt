-- The place is there already, or it goes last.
use Rattle.flat_net.proofs.circuit_theory.Lists.{of_at}
use Rattle.aig.proofs.Interned.{interned}
use Rattle.event_nodes.proofs.net_parts.add.Goals as goal

pub returns-clause-adds : goal.returns-clause-adds
returns-clause-adds c = (interned _ _ _ c.in_ok-intern.ensures.known c.in_ok-intern.ensures.added).0

pub returns-clause-few : goal.returns-clause-few
returns-clause-few c = (interned _ _ _ c.in_ok-intern.ensures.known c.in_ok-intern.ensures.added).1

pub returns-clause-here : goal.returns-clause-here
returns-clause-here c = of_at _ _ _ c.in_ok-intern.ensures.here
