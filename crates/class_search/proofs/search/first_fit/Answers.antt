-- The answer to the query with `always` decides, or what tells the enable from it goes on.
use Rattle.std.proofs.Common.{subst}
use Rattle.pair_decide.specs.declared.query.Decision.{Decision}
use Rattle.event_nodes.proofs.Growing.{grows_refl}
use Rattle.class_search.specs.Comparing.{IsAlwaysComparison}
use Rattle.class_search.proofs.search.first_fit.Goals as goal

pub search_on-requires-clause-always : goal.search_on-requires-clause-always
search_on-requires-clause-always c = subst (λ (d : Decision). IsAlwaysComparison c.args.events.now c.args.latch.now c.args.conflicts (record { vars = c.in_ok-vars.field-0.vars; decision = d })) c.in-Differs.is c.in_ok-vars.ensures

pub returns-in-Same-clause-fit : goal.returns-in-Same-clause-fit
returns-in-Same-clause-fit c =
    (c.in_ok-vars.field-0.vars, c.in-Same.field-0, subst (λ (d : Decision). IsAlwaysComparison c.args.events.now c.args.latch.now c.args.conflicts (record { vars = c.in_ok-vars.field-0.vars; decision = d })) c.in-Same.is c.in_ok-vars.ensures)

pub returns-in-Limit-clause-unfit : goal.returns-in-Limit-clause-unfit
returns-in-Limit-clause-unfit c =
    (c.in_ok-vars.field-0.vars, subst (λ (d : Decision). IsAlwaysComparison c.args.events.now c.args.latch.now c.args.conflicts (record { vars = c.in_ok-vars.field-0.vars; decision = d })) c.in-Limit.is c.in_ok-vars.ensures)

pub returns-in-Same-clause-grows : goal.returns-in-Same-clause-grows
returns-in-Same-clause-grows c = grows_refl c.args.events.now

pub returns-in-Limit-clause-grows : goal.returns-in-Limit-clause-grows
returns-in-Limit-clause-grows c = grows_refl c.args.events.now

pub returns-in_err-vars-clause-grows : goal.returns-in_err-vars-clause-grows
returns-in_err-vars-clause-grows c = grows_refl c.args.events.now
