-- The answer to the query of the care.
use Rattle.std.proofs.Common.{sym, subst}
use Rattle.pair_decide.specs.declared.query.SameBy.{SameBy}
use Rattle.obligations.specs.outcome.Query.{Query}
use Rattle.obligations.specs.outcome.Decision.TheVariants as decision
use Rattle.obligations.specs.outcome.Queries.{IsQuery}
use Rattle.obligations.specs.outcome.Answers.{Decides, IsDifference}
use Rattle.event_settles.specs.Deciding.{care_query}
use Rattle.event_settles.proofs.Decisions.{is_query, met, never}
use Rattle.event_settles.proofs.deciding.care_met.Goals as goal

pub decide-requires-clause-query : goal.decide-requires-clause-query
decide-requires-clause-query c = subst (IsQuery c.args.aig.now) (sym c.in_ok-asked.ensures) (is_query c.args.aig.now c.args.query.now c.requires.graph c.requires.query)

pub returns-in-Same : goal.returns-in-Same
returns-in-Same c =
    let g = c.args.aig.now in
    let by : SameBy = c.in-Same.field-0 in
    let d : Decides g (care_query c.args.query.now) c.args.conflicts (decision.Same by) =
    subst (λ (q : Query). Decides g q c.args.conflicts (decision.Same by)) c.in_ok-asked.ensures (subst (Decides g c.in_ok-asked.asked c.args.conflicts) c.in-Same.is c.in_ok-decide.ensures) in
    never g c.args.query.now c.requires.graph c.requires.query c.args.conflicts by d

pub returns-in-Differs : goal.returns-in-Differs
returns-in-Differs c =
    let g = c.args.aig.now in
    let bits = c.in-Differs.field-0 in
    let d : IsDifference g (care_query c.args.query.now) bits =
    subst (λ (q : Query). IsDifference g q bits) c.in_ok-asked.ensures (subst (Decides g c.in_ok-asked.asked c.args.conflicts) c.in-Differs.is c.in_ok-decide.ensures) in
    (bits, met g c.args.query.now c.requires.graph c.requires.query bits d)
