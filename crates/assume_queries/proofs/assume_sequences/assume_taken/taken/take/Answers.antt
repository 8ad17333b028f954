-- The answers of the assumption's query.
use Rattle.std.proofs.Common.{ℕ, sym, subst}
use Rattle.assume_queries.specs.declared.assume_sequences.assume_taken.meeting.Meeting.{Meeting}
use Rattle.assume_queries.specs.declared.assume_sequences.assume_taken.meeting.Meeting.TheVariants as meeting
use Rattle.assume_queries.specs.assume_sequences.assume_taken.Meeting.{CanMeet, IsMeeting}
use Rattle.assume_queries.proofs.assume_sequences.assume_taken.Taking.{can_meet, vacuous, undecided, premise}
use Rattle.assume_queries.proofs.assume_sequences.assume_taken.taken.take.Goals as goal

pub meeting_row-requires-clause-own : goal.meeting_row-requires-clause-own
meeting_row-requires-clause-own c = let f = c.in_ok-own.field-0 in subst (CanMeet f.own) (sym c.len.ensures) (can_meet c.args.names.now c.args.c.now f c.in_ok-own.ensures)

pub returns-in-Never : goal.returns-in-Never
returns-in-Never c =
    let f = c.in_ok-own.field-0 in
    vacuous c.args.names.now c.args.c.now f c.in_ok-own.ensures c.keeps.ensures.graph c.keeps.ensures.values c.keeps-2.ensures c.args.conflicts c.in-Never.by
    (subst (λ (n : ℕ). IsMeeting f.own n c.args.conflicts (meeting.Never c.in-Never.by)) c.len.ensures (subst (λ (m : Meeting). IsMeeting f.own c.len.result c.args.conflicts m) c.in-Never.is c.in_ok-by.ensures))

pub returns-in-Row : goal.returns-in-Row
returns-in-Row c =
    let f = c.in_ok-own.field-0 in
    premise c.args.names.now c.args.c.now f c.in_ok-own.ensures c.keeps.ensures.graph c.keeps.ensures.values c.keeps-2.ensures c.args.conflicts c.in-Row.meeting
    (subst (λ (n : ℕ). IsMeeting f.own n c.args.conflicts (meeting.Row c.in-Row.meeting)) c.len.ensures (subst (λ (m : Meeting). IsMeeting f.own c.len.result c.args.conflicts m) c.in-Row.is c.in_ok-by.ensures))

pub returns-in-Limit : goal.returns-in-Limit
returns-in-Limit c =
    let f = c.in_ok-own.field-0 in
    undecided c.args.names.now c.args.c.now f c.in_ok-own.ensures c.keeps.ensures.graph c.keeps.ensures.values c.keeps-2.ensures c.args.conflicts c.in-Limit.proof
    (subst (λ (n : ℕ). IsMeeting f.own n c.args.conflicts (meeting.Limit c.in-Limit.proof)) c.len.ensures (subst (λ (m : Meeting). IsMeeting f.own c.len.result c.args.conflicts m) c.in-Limit.is c.in_ok-by.ensures))
