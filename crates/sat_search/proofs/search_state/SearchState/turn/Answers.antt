use Rattle.std.proofs.Common.{ℕ, Option, refl, subst, arith}
use Rattle.clause_watch.specs.Watching.{IsPropagated}
use Rattle.sat_search.specs.declared.search_state.SearchState.{SearchState}
use Rattle.sat_search.proofs.Searching.{search_propagated, search_limit}
use Rattle.sat_search.proofs.Turns.{decided_from, learnt_from}
use Rattle.sat_search.proofs.search_state.SearchState.turn.Goals as goal

pub returns-in-None : goal.returns-in-None
returns-in-None c =
    let s = c.args.self.now in
    let t = c.propagate.new.trail in
    let w = c.propagate.new.self in
    let mid : SearchState = record { trail = t; watches = w; order = s.order; resolver = s.resolver; log = s.log } in
    let found = subst (λ (o : Option ℕ). IsPropagated w.clauses.known t w.clauses.pairs w.clauses.rows w.head o) c.in-None.is c.in_ok-found.ensures.found in
    decided_from c.args.conflicts s mid c.decide.new.self c.decide.result
    (λ clauses variables r. record { searching = search_propagated clauses variables c.args.conflicts s.watches.clauses.known w.clauses.known s.trail t s.log r.searching c.in_ok-found.ensures.known c.in_ok-found.ensures.variables found.0.is_trail; watched = found.0 }) refl c.propagate.ensures.longer c.decide.ensures

pub returns-else-len-conflicts : goal.returns-else-len-conflicts
returns-else-len-conflicts c =
    let s = c.args.self.now in
    let t = c.propagate.new.trail in
    let w = c.propagate.new.self in
    let mid : SearchState = record { trail = t; watches = w; order = s.order; resolver = s.resolver; log = s.log } in
    let found = subst (λ (o : Option ℕ). IsPropagated w.clauses.known t w.clauses.pairs w.clauses.rows w.head o) c.in-Some.is c.in_ok-found.ensures.found in
    learnt_from c.args.conflicts s mid c.learn.new.self c.learn.result
    (λ clauses variables r. record { searching = search_propagated clauses variables c.args.conflicts s.watches.clauses.known w.clauses.known s.trail t s.log r.searching c.in_ok-found.ensures.known c.in_ok-found.ensures.variables found.0.is_trail; watched = found.0 }) refl c.propagate.ensures.longer
    (omega (arith, c.requires.2.searching.within, c.len.ensures)) c.learn.ensures

pub decide-requires-clause-watched : goal.decide-requires-clause-watched
decide-requires-clause-watched c =
    let w = c.propagate.new.self in
    let found = subst (λ (o : Option ℕ). IsPropagated w.clauses.known c.propagate.new.trail w.clauses.pairs w.clauses.rows w.head o) c.in-None.is c.in_ok-found.ensures.found in
    found.0

pub returns-then-len-conflicts : goal.returns-then-len-conflicts
returns-then-len-conflicts c = λ clauses variables r.
    let s = c.args.self.now in
    search_limit clauses variables c.args.conflicts s.watches.clauses.known s.trail s.log r.searching (omega (arith, c.len.ensures, c.if-len-conflicts.true))

pub decide-requires-clause-whole : goal.decide-requires-clause-whole
decide-requires-clause-whole c =
    let w = c.propagate.new.self in
    let found = subst (λ (o : Option ℕ). IsPropagated w.clauses.known c.propagate.new.trail w.clauses.pairs w.clauses.rows w.head o) c.in-None.is c.in_ok-found.ensures.found in
    found.1

pub decide-requires-clause-quiet : goal.decide-requires-clause-quiet
decide-requires-clause-quiet c =
    let w = c.propagate.new.self in
    let found = subst (λ (o : Option ℕ). IsPropagated w.clauses.known c.propagate.new.trail w.clauses.pairs w.clauses.rows w.head o) c.in-None.is c.in_ok-found.ensures.found in
    found.2
