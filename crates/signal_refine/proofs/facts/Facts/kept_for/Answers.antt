-- What is kept for what is kept.
use Rattle.std.proofs.Common.{sym, subst}
use Rattle.swept_queries.specs.node_agreement.Standing.{AreChosen}
use Rattle.swept_queries.proofs.node_agreement.Stood.{stands-trans}
use Rattle.signal_refine.proofs.facts.Facts.kept_for.Goals as goal

pub returns : goal.returns
returns c =
    let g = c.args.self.now.aig in
    let once = c.follow-once.ensures g (subst (AreChosen g) (sym c.deref.ensures.value) c.requires.known) c.requires.within in
    stands-trans g g g c.args.l.0 c.follow-once.result.0 c.follow.result.0 once (c.follow.ensures g (subst (AreChosen g) (sym c.deref-2.ensures.value) c.requires.known) once.within)
