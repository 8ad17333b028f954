-- The pair of the difference is unfolded once more, and shown by what it reaches.
use Rattle.std.proofs.Common.{get_or, Err, ap, subst}
use Rattle.std.proofs.lemmas.Result.{err_from_is_err_and}
use Rattle.sec_base.specs.declared.basics.PairAnswer.TheVariants as answer
use Rattle.event_nodes.specs.Nodes.{EventGraphView}
use Rattle.event_form.specs.Counted.{left_starts, right_starts}
use Rattle.event_form.proofs.Refusing.{error_is, memory_refused, ok_refused}
use Rattle.event_form.specs.event_agreement.pair_events.View.{side_of_both}
use Rattle.event_form.specs.event_findings.unshown_pairs.Reached.{BothReachAlways}
use Rattle.event_form.specs.event_findings.unshown_pairs.Separations.{AreToldApart, AreToldFor}
use Rattle.event_comparison.proofs.Showing.{refused_for_all, stay_counted}
use Rattle.event_under.specs.event_under_form.event_witness_under.Ready.{IsReadyAt}
use Rattle.event_under.specs.event_under_form.event_witness_under.Shown.{IsSequenceAt}
use Rattle.event_under.specs.event_under_form.Asked.{DiffersAt}
use Rattle.event_under.proofs.event_under_form.Showing.{can_make, can_show, difference_within, frame_shown, of_pair, pair_is, pair_there, sequence_shown}
use Rattle.event_under.proofs.event_under_form.verdict.show_unshown.Goals as goal

pub ready_at-requires : goal.ready_at-requires
ready_at-requires c = can_show c.args.events.now c.args.compared.now c.args.shows.now c.requires.from c.keeps.ensures.kept.events c.args.difference.now (answer.NotShown, c.requires.differs.0, c.requires.differs.1) c.graph.result.now c.graph.ensures

pub bounds-compared-difference : goal.bounds-compared-difference
bounds-compared-difference c = difference_within c.args.events.now c.args.compared.now c.args.shows.now.asked.now c.args.shows.now.questions.now c.requires.from.questions c.args.difference.now (answer.NotShown, c.requires.differs.0, c.requires.differs.1)

pub tell_apart-requires-clause-pair : goal.tell_apart-requires-clause-pair
tell_apart-requires-clause-pair c =
    pair_is c.args.events.now c.args.compared.now c.args.shows.now.asked.now c.args.shows.now.questions.now c.requires.from.questions c.args.difference.now (answer.NotShown, c.requires.differs.0, c.requires.differs.1) c.index-compared-difference.result c.requires.from.plain.pairs

pub sequence_of-requires-clause-sides : goal.sequence_of-requires-clause-sides
sequence_of-requires-clause-sides c =
    can_make c.args.events.now c.args.compared.now c.args.shows.now c.requires.from c.keeps.ensures.kept.events c.args.difference.now (answer.NotShown, c.requires.differs.0, c.requires.differs.1) c.tell_apart.new.events.events c.in_ok-told.ensures.later.grows c.graph-graph.result.now c.graph-graph.ensures

pub returns-in_default-clause-shown : goal.returns-in_default-clause-shown
returns-in_default-clause-shown c =
    let e = c.tell_apart.new.events in
    let f = c.args.events.now in
    let s = c.args.shows.now in
    let d = c.args.difference.now in
    let differs : DiffersAt s.questions.now d = (answer.NotShown, c.requires.differs.0, c.requires.differs.1) in
    let y = c.in_ok-ready.ready in
    let p = get_or c.args.compared.now.pairs.now d.pair c.index-compared-difference.result in
    let ready : IsReadyAt f.events s.questions.now d y = subst (λ (w : EventGraphView). IsReadyAt w s.questions.now d y) c.graph.ensures c.in_ok-ready.ensures in
    let made : IsSequenceAt e.events c.args.compared.now s.asked.now s.meeting.now d y c.in_ok-witness.witness =
    subst (λ (w : EventGraphView). IsSequenceAt w c.args.compared.now s.asked.now s.meeting.now d y c.in_ok-witness.witness) c.graph-graph.ensures c.in_ok-witness.ensures in
    let always : BothReachAlways (side_of_both e) p = subst (AreToldFor e.left e.right p) c.in_default.is c.in_ok-told.ensures.told in (
      sequence_shown f c.args.compared.now s c.requires.from c.keeps.ensures.kept.events d differs e.events c.keeps-2.ensures.kept.events c.in_ok-told.ensures.later.grows y ready c.in_ok-witness.witness made,
      of_pair f c.args.compared.now s.asked.now s.questions.now c.requires.from.questions d differs c.index-compared-difference.result (BothReachAlways (side_of_both e)) always,
    )

pub returns-clause-shown : goal.returns-clause-shown
returns-clause-shown c =
    let e = c.tell_apart.new.events in
    let f = c.args.events.now in
    let s = c.args.shows.now in
    let d = c.args.difference.now in
    let differs : DiffersAt s.questions.now d = (answer.NotShown, c.requires.differs.0, c.requires.differs.1) in
    let y = c.in_ok-ready.ready in
    let p = get_or c.args.compared.now.pairs.now d.pair c.index-compared-difference.result in
    let ready : IsReadyAt f.events s.questions.now d y = subst (λ (w : EventGraphView). IsReadyAt w s.questions.now d y) c.graph.ensures c.in_ok-ready.ensures in
    let apart : AreToldApart e.left e.right p c.in-Some.apart = subst (AreToldFor e.left e.right p) c.in-Some.is c.in_ok-told.ensures.told in (
      frame_shown f.events s.questions.now d y ready c.in_ok-frame.frame c.in_ok-frame.ensures,
      of_pair f c.args.compared.now s.asked.now s.questions.now c.requires.from.questions d differs c.index-compared-difference.result (λ q. AreToldApart e.left e.right q c.in-Some.apart) apart,
    )

pub returns-in_default-clause-counted : goal.returns-in_default-clause-counted
returns-in_default-clause-counted c =
    stay_counted c.args.events.now c.tell_apart.new.events c.args.compared.now.pairs.now (get_or c.args.compared.now.pairs.now c.args.difference.now.pair c.index-compared-difference.result)
    (pair_there c.args.events.now c.args.compared.now c.args.shows.now.asked.now c.args.shows.now.questions.now c.requires.from.questions c.args.difference.now (answer.NotShown, c.requires.differs.0, c.requires.differs.1) c.index-compared-difference.result) c.in_ok-told.ensures.counted

pub returns-clause-counted : goal.returns-clause-counted
returns-clause-counted c =
    stay_counted c.args.events.now c.tell_apart.new.events c.args.compared.now.pairs.now (get_or c.args.compared.now.pairs.now c.args.difference.now.pair c.index-compared-difference.result)
    (pair_there c.args.events.now c.args.compared.now c.args.shows.now.asked.now c.args.shows.now.questions.now c.requires.from.questions c.args.difference.now (answer.NotShown, c.requires.differs.0, c.requires.differs.1) c.index-compared-difference.result) c.in_ok-told.ensures.counted

pub returns-in_err-ready-clause-refused : goal.returns-in_err-ready-clause-refused
returns-in_err-ready-clause-refused c =
    let p = err_from_is_err_and c.from_residual.result c.from_residual.ensures.1 in
    rw (p.1, p.2) (memory_refused (left_starts c.args.compared.now.pairs.now) (right_starts c.args.compared.now.pairs.now) c.args.events.now)

pub returns-in_err-told-clause-refused : goal.returns-in_err-told-clause-refused
returns-in_err-told-clause-refused c =
    let p = err_from_is_err_and c.from_residual-in_err-told.result c.from_residual-in_err-told.ensures.1 in
    rw (p.1, p.2) (refused_for_all c.args.events.now c.args.compared.now.pairs.now (get_or c.args.compared.now.pairs.now c.args.difference.now.pair c.index-compared-difference.result)
    (pair_there c.args.events.now c.args.compared.now c.args.shows.now.asked.now c.args.shows.now.questions.now c.requires.from.questions c.args.difference.now (answer.NotShown, c.requires.differs.0, c.requires.differs.1) c.index-compared-difference.result) _ _ (λ error is. ap Err (error_is is)) c.in_err-told.ensures.refused)

pub returns-in_err-witness-clause-refused : goal.returns-in_err-witness-clause-refused
returns-in_err-witness-clause-refused c =
    let p = err_from_is_err_and c.from_residual-in_err-witness.result c.from_residual-in_err-witness.ensures.1 in
    rw (p.1, p.2) (memory_refused (left_starts c.args.compared.now.pairs.now) (right_starts c.args.compared.now.pairs.now) c.args.events.now)

pub returns-in_err-frame-clause-refused : goal.returns-in_err-frame-clause-refused
returns-in_err-frame-clause-refused c =
    let p = err_from_is_err_and c.from_residual-in_err-frame.result c.from_residual-in_err-frame.ensures.1 in
    rw (p.1, p.2) (memory_refused (left_starts c.args.compared.now.pairs.now) (right_starts c.args.compared.now.pairs.now) c.args.events.now)

pub returns-in_default-clause-refused : goal.returns-in_default-clause-refused
returns-in_default-clause-refused c = ok_refused (left_starts c.args.compared.now.pairs.now) (right_starts c.args.compared.now.pairs.now) c.args.events.now _

pub returns-clause-refused : goal.returns-clause-refused
returns-clause-refused c = ok_refused (left_starts c.args.compared.now.pairs.now) (right_starts c.args.compared.now.pairs.now) c.args.events.now _
