-- The query is one of the graph, and its answer says whether a row meets the assumption.
use Rattle.std.proofs.Common.{◌<◌, ℕ, List, sym, subst}
use Rattle.std.specs.List.{All}
use Rattle.aig.specs.declared.node.Node.{Node}
use Rattle.pair_decide.specs.declared.query.Query.{Query}
use Rattle.pair_decide.specs.declared.query.SameBy.{SameBy}
use Rattle.pair_decide.specs.declared.query.SameBy.TheVariants as same
use Rattle.pair_decide.specs.declared.query.Decision.TheVariants as decision
use Rattle.pair_decide.specs.Queries.{IsQuery, IsSame}
use Rattle.pair_decide.specs.Answers.{Decides, IsDifference}
use Rattle.cbf_unfold.specs.shift_variables.Variables.{variable_of}
use Rattle.assume_queries.specs.assume_sequences.assume_taken.Meeting.{meeting_query}
use Rattle.assume_queries.proofs.assume_sequences.assume_taken.Rows.{is_query, is_sequence, never, row_meets}
use Rattle.assume_queries.proofs.assume_sequences.assume_taken.meeting.meeting_row.Goals as goal

same_of : (g : List Node) (q : Query) (conflicts : ℕ) (by : SameBy) → Decides g q conflicts (decision.Same by) → IsSame g q
same_of g q conflicts same.Literal d = d.1
same_of g q conflicts same.Table d = d.1
same_of g q conflicts (same.Refuted proof) d = d.1

pub decide-requires-clause-query : goal.decide-requires-clause-query
decide-requires-clause-query c =
    let r = c.requires.own in
    subst (IsQuery c.args.own.now.aig) (sym c.in_ok-query.ensures) (is_query r.net r.order r.output c.args.own.now r.function c.keeps.ensures.graph c.keeps-2.ensures)

pub returns-in-Same : goal.returns-in-Same
returns-in-Same c =
    let own = c.args.own.now in
    let by = c.in-Same.by in
    let d : Decides own.aig (meeting_query own) c.args.conflicts (decision.Same by) =
    subst (λ (q : Query). Decides own.aig q c.args.conflicts (decision.Same by)) c.in_ok-query.ensures (subst (Decides own.aig c.in_ok-query.query c.args.conflicts) c.in-Same.is c.in_ok-decision.ensures) in
    (d, λ n order s size is assumes row meets. never n order s own is size assumes c.keeps.ensures.graph c.keeps.ensures.values (same_of own.aig (meeting_query own) c.args.conflicts by d) row meets)

pub returns-in-Differs : goal.returns-in-Differs
returns-in-Differs c =
    let own = c.args.own.now in
    let r = c.requires.own in
    let bits = c.in-Differs.bits in
    let d : IsDifference own.aig (meeting_query own) bits =
    subst (λ (q : Query). IsDifference own.aig q bits) c.in_ok-query.ensures (subst (Decides own.aig c.in_ok-query.query c.args.conflicts) c.in-Differs.is c.in_ok-decision.ensures) in
    let inputs : All (λ v. (variable_of own.places v).input < c.args.count) own.function.vars = (is_sequence r.net r.order r.output own r.function c.args.count bits r.gates r.inputs d.each).inputs in (
      (bits, d, c.in_ok-row-in-Differs.ensures),
      λ n order s size is assumes. row_meets n order s own is size assumes c.keeps.ensures.graph c.keeps.ensures.values c.args.count bits c.in_ok-row-in-Differs.row c.keeps-2.ensures inputs d c.in_ok-row-in-Differs.ensures,
    )

pub returns : goal.returns
returns c =
    let own = c.args.own.now in
    subst (λ (q : Query). Decides own.aig q c.args.conflicts (decision.Limit c.in-Limit.proof)) c.in_ok-query.ensures (subst (Decides own.aig c.in_ok-query.query c.args.conflicts) c.in-Limit.is c.in_ok-decision.ensures)
