use Rattle.std.proofs.Common.{take, subst}
use Rattle.clause_watch.specs.Trails.{TrailView}
use Rattle.clause_watch.specs.Watching.{IsWatched}
use Rattle.clause_watch.proofs.Visits.{same_trail}
use Rattle.clause_watch.proofs.Lessons.{watched_cut}
use Rattle.clause_watch.proofs.propagation.Watches.cut.Goals as goal

pub returns-clause-watched : goal.returns-clause-watched
returns-clause-watched c =
    let t = c.args.trail.now in
    let w = c.args.self.now.clauses in
    let keep = c.args.decision in
    let cut = watched_cut w.known t w.pairs w.rows c.args.self.now.head keep c.requires.watched c.requires.decision in
    subst (λ (x : TrailView). IsWatched w.known x w.pairs w.rows keep) (same_trail t c.cut.new.self (take keep t.entries) c.cut.ensures.variables c.cut.ensures.entries) cut
