use Rattle.std.proofs.Common.{arith, ◌∙◌, ◌+◌, ℕ, Option, subst}
use Rattle.clause_watch.proofs.Visits.{quiet_end}
use Rattle.clause_watch.specs.Watching.{IsWatched, IsRowVisited}
use Rattle.clause_watch.proofs.propagation.Watches.propagate.Goals as goal

pub returns-clause-found : goal.returns-clause-found
returns-clause-found c =
    let w = c.turns.invariant.0 in
    let s = c.turns.self.clauses in
    (w, omega (arith, w.within, c.len.ensures.length, c.turns-test.false), quiet_end s.known c.turns.trail s.pairs s.rows c.turns.self.head w (omega (arith, c.len.ensures.length, c.turns-test.false)))

pub turns-preserved : goal.turns-preserved
turns-preserved c =
    let s = c.visit.new.self in
    let e = c.in_ok-number.ensures in
    let inv = c.turns.invariant in
    let w : IsWatched s.clauses.known c.visit.new.trail s.clauses.pairs s.clauses.rows (s.head + 1) = subst (λ (found : Option ℕ). IsRowVisited s.clauses.known c.visit.new.trail s.clauses.pairs s.clauses.rows s.head found) c.in_default.is e.visited in
    (w, e.variables ∙ inv.1, omega (arith, e.longer, inv.2), e.known ∙ inv.3)

pub returns-in-Some-clause-found : goal.returns-in-Some-clause-found
returns-in-Some-clause-found c =
    let s = c.visit.new.self in
    subst (λ (found : Option ℕ). IsRowVisited s.clauses.known c.visit.new.trail s.clauses.pairs s.clauses.rows s.head found) c.in-Some.is c.in_ok-number.ensures.visited
