-- The place has been met, it is in the table already, or it goes last.
use Rattle.std.proofs.Common.{inl, inr, refl}
use Rattle.circuit_theory.proofs.Lists.{of_at}
use Rattle.aig.proofs.Lists.{adds_none}
use Rattle.aig.proofs.Interned.{interned}
use Rattle.cbf_unfold.proofs.unfold_places.reads.add.Goals as goal

pub returns-in-Some-clause-adds : goal.returns-in-Some-clause-adds
returns-in-Some-clause-adds c = adds_none _ _ _ refl

pub returns-in-Some-clause-here : goal.returns-in-Some-clause-here
returns-in-Some-clause-here c = inr (_, c.in-Some.ensures.here)

pub returns-clause-adds : goal.returns-clause-adds
returns-clause-adds c = (interned _ _ _ c.in_ok-intern.ensures.known c.in_ok-intern.ensures.added).0

pub returns-clause-few : goal.returns-clause-few
returns-clause-few c = (interned _ _ _ c.in_ok-intern.ensures.known c.in_ok-intern.ensures.added).1

pub returns-clause-here : goal.returns-clause-here
returns-clause-here c = inl (of_at _ _ _ c.in_ok-intern.ensures.here)
