use Rattle.std.proofs.Common.{ap, length, subst, sym, arith}
use Rattle.clause_watch.specs.Trails.{TrailView}
use Rattle.clause_watch.specs.Learning.{IsLoading}
use Rattle.sat_search.proofs.search_state.SearchState.new.Goals as goal

pub returns-clause-new : goal.returns-clause-new
returns-clause-new c =
    let w = c.in_ok-watches.watches in
    let k = w.clauses in
    let made = c.in_ok-watches.ensures in
    record {
      numbers = omega (arith, ap length made.known, c.requires.numbers);
      empty = c.new-5.ensures;
      loading = subst (λ (t : TrailView). IsLoading k.known t k.pairs k.rows 0) (sym c.in_ok-trail.ensures) made.loading;
      first = made.head;
    }
