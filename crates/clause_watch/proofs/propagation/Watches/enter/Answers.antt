use Rattle.std.proofs.Common.{arith, ◌<◌, ◌≤◌, subst, sym}
use Rattle.clause_watch.proofs.Loading.{entered_long, entered_force}
use Rattle.clause_base.specs.Literals.{Literal}
use Rattle.clause_watch.specs.Range.{AllInRange}
use Rattle.clause_watch.proofs.Lists.{at_number}
use Rattle.clause_watch.proofs.propagation.Watches.enter.Goals as goal

pub returns-in-len1-clause-entered : goal.returns-in-len1-clause-entered
returns-in-len1-clause-entered c =
    let w = c.args.self.now.clauses in
    entered_force w.known c.clause.result.now c.args.trail.now c.force.new.trail w.pairs w.rows c.args.number c.single-item.result c.force.result
    c.requires.loading c.clause.ensures.there (omega (arith, c.in-len1.len_at_least)) (omega (arith, c.in-len1.len_below)) c.single-item.is c.force.ensures.variables c.force.ensures.forced

pub returns-in-len2-up-clause-entered : goal.returns-in-len2-up-clause-entered
returns-in-len2-up-clause-entered c =
    let w = c.args.self.now.clauses in
    entered_long w.known c.clause.result.now c.args.trail.now w.pairs w.rows c.args.number c.requires.loading c.clause.ensures.there c.in-len2-up.len_at_least

pub force-requires-clause-above : goal.force-requires-clause-above
force-requires-clause-above c =
    let all : AllInRange c.args.trail.now.variables c.clause.result.now = at_number (AllInRange c.args.trail.now.variables) c.args.self.now.clauses.known c.args.number c.clause.result.now c.requires.loading.range c.clause.ensures.there in
    subst (λ (l : Literal). 0 < l.variable) (sym c.single-item.is) (all 0 c.single-item.result c.in-len1.len_at_least).0

pub force-requires-clause-within : goal.force-requires-clause-within
force-requires-clause-within c =
    let all : AllInRange c.args.trail.now.variables c.clause.result.now = at_number (AllInRange c.args.trail.now.variables) c.args.self.now.clauses.known c.args.number c.clause.result.now c.requires.loading.range c.clause.ensures.there in
    subst (λ (l : Literal). l.variable ≤ c.args.trail.now.variables) (sym c.single-item.is) (all 0 c.single-item.result c.in-len1.len_at_least).1
