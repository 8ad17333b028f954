-- A signal in the cone of what the put latch takes over reads the latch, where it isn't known to be apart from it.
use Rattle.std.proofs.Common.{sym, subst}
use Rattle.edbf_unfold.specs.declared.event_literals.event_walk.frames.Put.{Put}
use Rattle.edbf_unfold.specs.event_literals.event_walk.Ready.{IsBoundTo}
use Rattle.edbf_unfold.proofs.event_literals.event_walk.entering.avoids.Goals as goal

pub returns-in-Low-clause-no : goal.returns-in-Low-clause-no
returns-in-Low-clause-no c = λ off. subst (λ (o : Put). IsBoundTo c.args.circuit.now.net o c.args.signal) (sym c.in-Low.is) (c.is_apart.ensures.reads off)

pub returns-in-High-clause-no : goal.returns-in-High-clause-no
returns-in-High-clause-no c = λ off. subst (λ (o : Put). IsBoundTo c.args.circuit.now.net o c.args.signal) (sym c.in-High.is) (c.is_apart-in-High.ensures.reads off)
