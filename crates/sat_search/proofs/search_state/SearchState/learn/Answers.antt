use Rattle.std.proofs.Common.{List, [], subst}
use Rattle.proof_check.specs.Literals.{Literal}
use Rattle.proof_check.specs.Chains.{ChainDerives}
use Rattle.sat_search.specs.Lessons.{IsLesson, IsLearnt}
use Rattle.sat_search.proofs.Searching.{search_refuted}
use Rattle.sat_search.proofs.search_state.SearchState.learn.Goals as goal

pub returns-in_ok-push-in-Refutation : goal.returns-in_ok-push-in-Refutation
returns-in_ok-push-in-Refutation c = λ clauses variables conflicts r room.
    let s = c.args.self.now in
    let derives = subst (IsLesson c.store.result.now s.trail) c.in-Refutation.is c.in_ok-chain.ensures in
    let lesson = subst (λ (k : List (List Literal)). ChainDerives k c.in-Refutation.chain []) c.store.ensures derives in
    search_refuted clauses variables conflicts s.watches.clauses.known s.trail s.log c.push.new.self c.in-Refutation.chain r.searching room lesson c.in_ok-push-in-Refutation.ensures.ok

pub returns-in_ok-add_learnt-in-Asserting : goal.returns-in_ok-add_learnt-in-Asserting
returns-in_ok-add_learnt-in-Asserting c = λ clauses variables conflicts r room.
    c.in_ok-add_learnt-in-Asserting.ensures clauses variables conflicts (record { searching = r.searching; watched = r.watched }) room

pub add_learnt-requires-clause-learnt : goal.add_learnt-requires-clause-learnt
add_learnt-requires-clause-learnt c =
    let s = c.args.self.now in
    let lesson : IsLearnt c.store.result.now s.trail c.in-Asserting.learnt = subst (IsLesson c.store.result.now s.trail) c.in-Asserting.is c.in_ok-chain.ensures in
    subst (λ (k : List (List Literal)). IsLearnt k s.trail c.in-Asserting.learnt) c.store.ensures lesson
