-- The query of two enables.
use Rattle.std.proofs.Common.{ℕ, List, refl, sym, subst}
use Rattle.event_nodes.specs.event_variables.aig.Node.{Node}
use Rattle.event_nodes.specs.event_variables.Variables.{AreInOrder, IsMergeOf}
use Rattle.pair_decide.specs.declared.query.Query.{Query}
use Rattle.pair_decide.specs.Queries.{IsQuery}
use Rattle.pair_decide.specs.Answers.{Decides}
use Rattle.class_search.specs.Comparing.{IsReadyEnable}
use Rattle.class_search.proofs.Queries.{ready_next, enables_query}
use Rattle.class_search.proofs.compare.compare_enables.Goals as goal

pub and-requires-clause-left : goal.and-requires-clause-left
and-requires-clause-left c = c.requires.left.care_within

pub and-requires-clause-right : goal.and-requires-clause-right
and-requires-clause-right c = c.requires.right.care_within

pub returns-in_err-care-clause-ready : goal.returns-in_err-care-clause-ready
returns-in_err-care-clause-ready c = λ x h. ready_next c.args.events.now c.and.new.self c.keeps.ensures.events c.and.ensures.grows c.and.ensures.same x h

pub returns-in_err-vars-clause-ready : goal.returns-in_err-vars-clause-ready
returns-in_err-vars-clause-ready c = λ x h. ready_next c.args.events.now c.and.new.self c.keeps.ensures.events c.and.ensures.grows c.and.ensures.same x h

pub returns-in_err-decision-clause-ready : goal.returns-in_err-decision-clause-ready
returns-in_err-decision-clause-ready c = λ x h. ready_next c.args.events.now c.and.new.self c.keeps.ensures.events c.and.ensures.grows c.and.ensures.same x h

pub returns-clause-ready : goal.returns-clause-ready
returns-clause-ready c = λ x h. ready_next c.args.events.now c.and.new.self c.keeps.ensures.events c.and.ensures.grows c.and.ensures.same x h

pub merge_variables-requires-clause-left : goal.merge_variables-requires-clause-left
merge_variables-requires-clause-left c = let ready : IsReadyEnable c.and.new.self c.args.left.now = ready_next c.args.events.now c.and.new.self c.keeps.ensures.events c.and.ensures.grows c.and.ensures.same c.args.left.now c.requires.left in subst (AreInOrder c.and.new.self) (sym c.as_slice.ensures) ready.in_order

pub merge_variables-requires-clause-right : goal.merge_variables-requires-clause-right
merge_variables-requires-clause-right c = let ready : IsReadyEnable c.and.new.self c.args.right.now = ready_next c.args.events.now c.and.new.self c.keeps.ensures.events c.and.ensures.grows c.and.ensures.same c.args.right.now c.requires.right in subst (AreInOrder c.and.new.self) (sym c.as_slice-2.ensures) ready.in_order

pub decide-requires-clause-query : goal.decide-requires-clause-query
decide-requires-clause-query c =
    let q : Query = record { left = c.args.left.now.value; right = c.args.right.now.value; care = c.in_ok-care.care; vars = c.in_ok-vars.vars } in
    subst (λ (g : List Node). IsQuery g q) (sym c.aig.ensures)
    (enables_query c.and.new.self c.keeps-2.ensures.events q c.args.left.now c.args.right.now (ready_next c.args.events.now c.and.new.self c.keeps.ensures.events c.and.ensures.grows c.and.ensures.same c.args.left.now c.requires.left) (ready_next c.args.events.now c.and.new.self c.keeps.ensures.events c.and.ensures.grows c.and.ensures.same c.args.right.now c.requires.right) refl refl c.in_ok-care.ensures.here c.in_ok-care.ensures.within
    (subst (λ (xs : List ℕ). IsMergeOf c.and.new.self xs c.args.right.now.vars c.in_ok-vars.vars) c.as_slice.ensures (subst (λ (ys : List ℕ). IsMergeOf c.and.new.self c.as_slice.result.now ys c.in_ok-vars.vars) c.as_slice-2.ensures c.in_ok-vars.ensures)))

pub returns-clause-compared : goal.returns-clause-compared
returns-clause-compared c =
    let q : Query = record { left = c.args.left.now.value; right = c.args.right.now.value; care = c.in_ok-care.care; vars = c.in_ok-vars.vars } in
    record {
      query = q;
      left = refl;
      right = refl;
      both = c.in_ok-care.ensures.here;
      within = c.in_ok-care.ensures.within;
      vars = refl;
      merged = subst (λ (xs : List ℕ). IsMergeOf c.and.new.self xs c.args.right.now.vars c.in_ok-vars.vars) c.as_slice.ensures (subst (λ (ys : List ℕ). IsMergeOf c.and.new.self c.as_slice.result.now ys c.in_ok-vars.vars) c.as_slice-2.ensures c.in_ok-vars.ensures);
      decided = subst (λ (g : List Node). Decides g q c.args.conflicts c.in_ok-decision.decision) c.aig.ensures c.in_ok-decision.ensures;
    }
