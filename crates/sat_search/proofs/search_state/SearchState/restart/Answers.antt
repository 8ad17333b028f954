use Rattle.clause_watch.proofs.Lessons.{decision_of}
use Rattle.sat_search.proofs.search_state.SearchState.restart.Goals as goal

pub cut-requires : goal.cut-requires
cut-requires c = record {
  decision = decision_of c.args.self.now.trail.entries c.len-end.result c.first_decision-first.result c.first_decision-first.ensures.3 c.if-first-end.false;
  watched = c.requires.watched;
}
