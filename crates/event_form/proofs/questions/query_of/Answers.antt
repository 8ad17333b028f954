-- The query of both functions.
use Rattle.std.proofs.Common.{ℕ, List, refl, sym, subst}
use Rattle.class_search.specs.event_variables.Variables.{AreInOrder, IsMergeOf}
use Rattle.event_form.proofs.event_agreement.event_pairs.Growing.{in_order_later}
use Rattle.event_form.proofs.questions.query_of.Goals as goal

pub and-requires-clause-left : goal.and-requires-clause-left
and-requires-clause-left c = c.requires.left.care

pub and-requires-clause-right : goal.and-requires-clause-right
and-requires-clause-right c = c.requires.right.care

pub returns-in_err-care-clause-more : goal.returns-in_err-care-clause-more
returns-in_err-care-clause-more c = record { grows = c.and.ensures.grows; same = c.and.ensures.same }

pub returns-in_err-vars-clause-more : goal.returns-in_err-vars-clause-more
returns-in_err-vars-clause-more c = record { grows = c.and.ensures.grows; same = c.and.ensures.same }

pub returns-clause-more : goal.returns-clause-more
returns-clause-more c = record { grows = c.and.ensures.grows; same = c.and.ensures.same }

pub merge-requires-clause-left : goal.merge-requires-clause-left
merge-requires-clause-left c =
    subst (AreInOrder c.and.new.self.events) (sym c.as_slice.ensures)
    (in_order_later c.args.events.now.events c.and.new.self.events c.keeps.ensures.kept.events c.keeps-2.ensures.kept.events c.and.ensures.grows c.args.left.now.vars c.requires.left.vars.within c.requires.left.vars)

pub merge-requires-clause-right : goal.merge-requires-clause-right
merge-requires-clause-right c =
    subst (AreInOrder c.and.new.self.events) (sym c.as_slice-2.ensures)
    (in_order_later c.args.events.now.events c.and.new.self.events c.keeps.ensures.kept.events c.keeps-2.ensures.kept.events c.and.ensures.grows c.args.right.now.vars c.requires.right.vars.within c.requires.right.vars)

pub returns-clause-query : goal.returns-clause-query
returns-clause-query c = record {
  left = refl;
  right = refl;
  care = c.in_ok-care.ensures.here;
  within = c.in_ok-care.ensures.within;
  vars = subst (λ (xs : List ℕ). IsMergeOf c.and.new.self.events xs c.args.right.now.vars c.in_ok-vars.vars) c.as_slice.ensures (subst (λ (ys : List ℕ). IsMergeOf c.and.new.self.events c.as_slice.result.now ys c.in_ok-vars.vars) c.as_slice-2.ensures c.in_ok-vars.ensures);
}
