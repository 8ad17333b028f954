use Rattle.std.proofs.Common.{ℕ, List, Option, refl, sym, subst}
use Rattle.proof_check.specs.Literals.{Literal}
use Rattle.clause_watch.specs.Trails.{IsTrail}
use Rattle.std.specs.Prelude.{IfOk}
use Rattle.sat_search.specs.Found.{IsFound}
use Rattle.clause_watch.specs.Watching.{IsWatched}
use Rattle.clause_watch.specs.Learning.{IsLoaded, IsFirstConflict}
use Rattle.sat_search.proofs.Searching.{search_start}
use Rattle.sat_search.proofs.search_state.SearchState.run.Goals as goal

pub go_on-requires : goal.go_on-requires
go_on-requires c =
    let s = c.args.self.now in
    let k = s.watches.clauses in
    let t = c.load.new.trail in
    let loaded : IsWatched k.known t k.pairs k.rows 0 = subst (λ (o : Option ℕ). IsLoaded k.known t k.pairs k.rows o) c.in_default.is c.in_ok-wrong.ensures.loaded in
    record {
      searching = search_start k.known t.variables c.args.conflicts k.known t s.log refl refl c.requires.empty loaded.range c.requires.numbers loaded.is_trail;
      watched = subst (λ (h : ℕ). IsWatched k.known t k.pairs k.rows h) (sym c.requires.first) loaded;
    }

pub returns : goal.returns
returns c =
    let k = c.args.self.now.watches.clauses.known in
    subst (λ (v : ℕ). IfOk c.go_on.result (IsFound k v c.args.conflicts)) c.load.ensures.variables c.go_on.ensures

pub refute-requires-clause-trail : goal.refute-requires-clause-trail
refute-requires-clause-trail c =
    let k = c.args.self.now.watches.clauses in
    let t = c.load.new.trail in
    let wrong : IsFirstConflict k.known t c.in-Some.number = subst (λ (o : Option ℕ). IsLoaded k.known t k.pairs k.rows o) c.in-Some.is c.in_ok-wrong.ensures.loaded in
    subst (λ (known : List (List Literal)). IsTrail known t.entries) (sym c.store-store.ensures) wrong.0
