use Rattle.std.proofs.Common.{refl, arith, ◌≡◌, ◌∙◌, ℕ, List, length, subst}
use Rattle.clause_watch.proofs.Visits.{visit_start, visit_end}
use Rattle.clause_base.specs.Literals.{Literal}
use Rattle.clause_watch.specs.Rows.{row}
use Rattle.clause_watch.specs.Trails.{TrailView}
use Rattle.clause_watch.specs.Watching.{IsVisited}
use Rattle.clause_watch.specs.declared.pair.Pair.{Pair}
use Rattle.clause_watch.specs.declared.pair.Visit.{Visit}
use Rattle.clause_watch.specs.declared.pair.Visit.TheVariants.{Stays, Gone, Conflict}
use Rattle.clause_watch.specs.declared.watchers.Watcher.{Watcher}
use Rattle.clause_watch.proofs.propagation.Watches.visit.Goals as goal

pub visits-init : goal.visits-init
visits-init c =
    let w = c.args.self.now.clauses in
    (visit_start w.known c.args.trail.now w.pairs w.rows c.args.self.now.head c.args.literal c.requires.watched c.requires.there, refl, refl, refl, omega arith, refl)

pub returns-clause-visited : goal.returns-clause-visited
returns-clause-visited c =
    let w = c.visits.self.clauses in
    visit_end w.known c.visits.trail w.pairs w.rows c.visits.self.head c.args.literal c.visits.place c.visits.invariant.0 (omega (arith, c.count.ensures, c.visits-test.false))

-- what a visit of one place leaves, by its answer
visited_as : (known : List (List Literal)) (trail : TrailView) (pairs : List Pair) (rows : List (List Watcher)) (head : ℕ) (l : Literal) (place before : ℕ) (v w : Visit) → v ≡ w → IsVisited known trail pairs rows head l place before v → IsVisited known trail pairs rows head l place before w
visited_as known trail pairs rows head l place before v w is h = subst (IsVisited known trail pairs rows head l place before) is h

pub visits-preserved-in-Stays : goal.visits-preserved-in-Stays
visits-preserved-in-Stays c =
    let s = c.follow.new.self in
    let e = c.in_ok-follow.ensures in
    let inv = c.visits.invariant in
    let v = visited_as s.clauses.known c.follow.new.trail s.clauses.pairs s.clauses.rows s.head c.args.literal c.visits.place (length (row c.visits.self.clauses.rows c.args.literal)) c.in_ok-follow.field-0 Stays c.in-Stays.is e.visited in
    (v.0, e.head ∙ inv.1, e.variables ∙ inv.2, omega (arith, v.0.watched.sized, inv.0.watched.sized, e.variables, inv.3), omega (arith, inv.4, e.longer), e.known ∙ inv.5)

pub visits-preserved : goal.visits-preserved
visits-preserved c =
    let s = c.follow.new.self in
    let e = c.in_ok-follow.ensures in
    let inv = c.visits.invariant in
    let v = visited_as s.clauses.known c.follow.new.trail s.clauses.pairs s.clauses.rows s.head c.args.literal c.visits.place (length (row c.visits.self.clauses.rows c.args.literal)) c.in_ok-follow.field-0 Gone c.in-Gone.is e.visited in
    (v.0, e.head ∙ inv.1, e.variables ∙ inv.2, omega (arith, v.0.watched.sized, inv.0.watched.sized, e.variables, inv.3), omega (arith, inv.4, e.longer), e.known ∙ inv.5)

pub returns-in-Conflict-clause-visited : goal.returns-in-Conflict-clause-visited
returns-in-Conflict-clause-visited c =
    let s = c.follow.new.self in
    visited_as s.clauses.known c.follow.new.trail s.clauses.pairs s.clauses.rows s.head c.args.literal c.visits.place (length (row c.visits.self.clauses.rows c.args.literal)) c.in_ok-follow.field-0 (Conflict c.in-Conflict.number) c.in-Conflict.is c.in_ok-follow.ensures.visited
