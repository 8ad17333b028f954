-- The last round's ties, or none.
use Rattle.std.proofs.Common.{◌∙◌, List, sym, subst}
use Rattle.circuit_laws.specs.declared.signal_laws.anchor.Anchor.{Anchor}
use Rattle.signal_refine.specs.Told.{AreTold}
use Rattle.signal_refine.specs.Assuming.{IsMet}
use Rattle.signal_refine.specs.Showing.{AreInductiveTies}
use Rattle.signal_refine.proofs.Showing.{none_left}
use Rattle.signal_refine.proofs.refinement.rounds.Goals as goal

pub returns-then-branch : goal.returns-then-branch
returns-then-branch c = record {
  first = c.args.round.now.first;
  base = c.args.round.now.base.now;
  lits = c.args.round.now.lits.now;
  are_lits = c.requires.lits;
  nodes = c.deref.result.now;
  inductive = c.in_ok-are_shown.ensures.shown c.if-branch.true;
  told = subst (λ (l : List Anchor). AreTold c.args.round.now.lits.now l c.in_ok-told_anchors.field-0.items) (c.deref-then-branch.ensures.value ∙ sym c.deref.ensures.value) c.in_ok-told_anchors.ensures;
}

pub returns : goal.returns
returns c = subst (AreInductiveTies (IsMet c.args.round.now.assumed c.args.round.now.nets) c.args.round.now.nets) (sym c.new-2.ensures.items)
    (none_left c.args.round.now.nets c.args.round.now.first c.requires.first c.args.round.now.base.now (IsMet c.args.round.now.assumed c.args.round.now.nets) c.args.round.now.lits.now c.requires.lits)
