use Rattle.std.proofs.Common.{◌∷◌, [], ◌∙◌, ap, length, length-append, arith}
use Rattle.sat_search.proofs.Searching.{search_learnt, fewer_left}
use Rattle.sat_search.proofs.search_state.SearchState.add_learnt.Goals as goal

pub returns : goal.returns
returns c = λ clauses variables conflicts r room.
    let s = c.args.self.now in
    let learnt = c.args.learnt in
    let lesson = c.requires.learnt in
    let made = c.in_ok-learn.ensures in
    let back = c.restart.ensures in
    let logged = back.log ∙ c.in_ok-push.ensures.ok in (
      record {
        searching = search_learnt clauses variables conflicts s.watches.clauses.known c.restart.new.self.watches.clauses.known s.trail c.restart.new.self.trail s.log c.restart.new.self.log learnt.clause learnt.chain learnt.literal learnt.second learnt.keep r.searching
            room (omega (arith, c.len.ensures)) lesson.0 lesson.1 lesson.2 (back.known ∙ made.known) logged (back.variables ∙ made.variables) back.watched.is_trail;
        watched = back.watched;
      },
      fewer_left conflicts (length s.log) (length c.restart.new.self.log) variables _ _ room (ap (λ xs. length xs) logged ∙ length-append s.log (learnt.chain ∷ [])),
    )

pub learn-requires-2-clause-range : goal.learn-requires-2-clause-range
learn-requires-2-clause-range c = c.requires.learnt.1
