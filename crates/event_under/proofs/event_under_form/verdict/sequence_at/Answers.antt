-- The sequence over the event graph is that of the difference.
use Rattle.std.proofs.Common.{subst}
use Rattle.event_nodes.specs.Nodes.{EventGraphView}
use Rattle.event_nodes.proofs.Growing.{grows_refl}
use Rattle.assume_queries.specs.assume_sequences.Filled.{bit_of}
use Rattle.event_form.proofs.event_findings.event_witness.Showing.{if_ok}
use Rattle.event_under.specs.event_under_form.event_under_verdicts.Shown.{IsWitnessUnder}
use Rattle.event_under.specs.event_under_form.event_witness_under.Ready.{IsReadyAt}
use Rattle.event_under.specs.event_under_form.event_witness_under.Shown.{IsSequenceAt}
use Rattle.event_under.proofs.event_under_form.Showing.{can_make, can_show, sequence_shown}
use Rattle.event_under.proofs.event_under_form.verdict.sequence_at.Goals as goal

pub ready_at-requires : goal.ready_at-requires
ready_at-requires c = can_show c.args.events.now c.args.compared.now c.args.shows.now c.requires.from c.keeps.ensures.kept.events c.args.difference.now c.requires.differs c.graph-graph.result.now c.graph-graph.ensures

pub sequence_of-requires-clause-sides : goal.sequence_of-requires-clause-sides
sequence_of-requires-clause-sides c =
    let e = c.args.events.now in
    can_make e c.args.compared.now c.args.shows.now c.requires.from c.keeps.ensures.kept.events c.args.difference.now c.requires.differs e.events (grows_refl e.events) c.graph-graph.result.now c.graph-graph.ensures

pub returns : goal.returns
returns c =
    let e = c.args.events.now in
    let p = c.args.compared.now in
    let s = c.args.shows.now in
    let d = c.args.difference.now in
    let y = c.in_ok-ready.ready in
    let graph = c.keeps.ensures.kept.events in
    let ready : IsReadyAt e.events s.questions.now d y = subst (λ (w : EventGraphView). IsReadyAt w s.questions.now d y) c.graph-graph.ensures c.in_ok-ready.ensures in
    if_ok c.sequence_of.result (IsSequenceAt c.graph-graph.result.now p s.asked.now s.meeting.now d y) (IsWitnessUnder e.events p s.asked.now s.questions.now (bit_of s.meeting.now) d)
    (λ z t. sequence_shown e p s c.requires.from graph d c.requires.differs e.events graph (grows_refl e.events) y ready z (subst (λ (w : EventGraphView). IsSequenceAt w p s.asked.now s.meeting.now d y z) c.graph-graph.ensures t)) c.sequence_of.ensures
