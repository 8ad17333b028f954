use Rattle.std.proofs.Common.{None, ◌++◌, ◌∷◌, [], ap, length, length-append, subst, arith}
use Rattle.clause_watch.specs.Trails.{TrailView}
use Rattle.clause_watch.specs.Watching.{IsWatched}
use Rattle.clause_watch.proofs.Trails.{entry_of}
use Rattle.clause_watch.proofs.Visits.{same_trail}
use Rattle.clause_watch.proofs.Lessons.{watched_decide}
use Rattle.sat_search.proofs.Searching.{search_decided, search_model}
use Rattle.sat_search.proofs.search_state.SearchState.decide.Goals as goal

pub returns-in_default : goal.returns-in_default
returns-in_default c = λ clauses variables conflicts r.
    let s = c.args.self.now in
    search_model clauses variables conflicts s.watches.clauses.known s.trail s.log c.in_ok-model.field-0 r.searching c.requires.quiet c.in_default.ensures c.in_ok-model.ensures

pub returns : goal.returns
returns c = λ clauses variables conflicts r.
    let s = c.args.self.now in
    let t = s.trail in
    let w = s.watches in
    let l = c.in-Some.literal in
    let free = c.in-Some.ensures.2 in
    let e = c.in_ok-push.ensures in
    let decided = watched_decide s.watches.clauses.known t w.clauses.pairs w.clauses.rows w.head l c.requires.watched (omega (arith, c.requires.whole)) free in (
      record {
        searching = search_decided clauses variables conflicts s.watches.clauses.known t c.push.new.self s.log l r.searching c.requires.quiet free e.variables e.entries;
        watched = subst (λ (x : TrailView). IsWatched s.watches.clauses.known x w.clauses.pairs w.clauses.rows w.head) (same_trail t c.push.new.self (t.entries ++ entry_of l None ∷ []) e.variables e.entries) decided;
      },
      omega (arith, e.room, r.searching.variables_are, ap (λ xs. length xs) e.entries, length-append t.entries (entry_of l None ∷ [])),
    )
