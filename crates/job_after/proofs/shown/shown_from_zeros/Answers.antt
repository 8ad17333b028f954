-- What is shown of the nets that begin with 0 is shown of the nets, which are set back.
use Rattle.std.proofs.Common.{◌∙◌, length, sym, ap, subst}
use Rattle.flat_net.specs.Comparable.{IsComparable}
use Rattle.flat_net.specs.View.{NetView}
use Rattle.restart.proofs.Again.{begun_comparable}
use Rattle.restart.proofs.Starting.{begun_long}
use Rattle.job_after.proofs.Zeros.{shown_before, back}
use Rattle.job_after.proofs.shown.shown_from_zeros.Goals as goal

pub shown_anew-requires-clause-left : goal.shown_anew-requires-clause-left
shown_anew-requires-clause-left g c = subst IsComparable (sym c.restart.ensures) (begun_comparable c.args.a.now c.deref.result.now c.requires.left)

pub shown_anew-requires-clause-right : goal.shown_anew-requires-clause-right
shown_anew-requires-clause-right g c = subst IsComparable (sym c.restart-2.ensures) (begun_comparable c.args.b.now c.deref-2.result.now c.requires.right)

pub restart-requires-3 : goal.restart-requires-3
restart-requires-3 g c = c.requires.known.0 ∙ sym (ap (λ (n : NetView). length n.latches) c.restart.ensures ∙ begun_long c.args.a.now.latches c.deref.result.now)

pub restart-requires-4 : goal.restart-requires-4
restart-requires-4 g c = c.requires.known.1 ∙ sym (ap (λ (n : NetView). length n.latches) c.restart-2.ensures ∙ begun_long c.args.b.now.latches c.deref-2.result.now)

pub returns-clause-shown : goal.returns-clause-shown
returns-clause-shown g c =
    let s = c.args.start.now.stimulus.now in
    shown_before (g.S.NetSearch.finds c.args.search.now) c.args.a.now c.args.b.now c.restart.new.net c.restart-2.new.net c.deref.result.now c.deref-2.result.now s.names s.rows c.in_ok-shown.shown c.restart.ensures c.restart-2.ensures c.in_ok-shown.ensures

pub returns-clause-same : goal.returns-clause-same
returns-clause-same g c =
    let start = c.args.start.now in (
      back c.args.a.now c.restart.new.net c.restart-3.new.net c.deref.result.now start.left.now c.requires.known.0 c.restart.ensures c.restart-3.ensures c.requires.begun.0,
      back c.args.b.now c.restart-2.new.net c.restart-4.new.net c.deref-2.result.now start.right.now c.requires.known.1 c.restart-2.ensures c.restart-4.ensures c.requires.begun.1,
    )
