use Rattle.std.proofs.Common.{◌≡◌, sym, subst, Some}
use Rattle.std.specs.Prelude.{slice_get}
use Rattle.std.proofs.lemmas.Option.{slice_get_within}
use Rattle.clause_watch.specs.Rows.{row, IsPut}
use Rattle.clause_watch.specs.TwoWatches.{WatchedView, IsNamed}
use Rattle.clause_watch.proofs.Keeping.{keeps_put}
use Rattle.clause_watch.proofs.watched_clauses.WatchedClauses.block.Goals as goal

pub invariant_of-self : goal.invariant_of-self
invariant_of-self c =
    let s = c.self.inside in
    let e = c.requires.there in
    let at = subst (λ (w : WatchedView). slice_get (row w.rows c.args.literal) c.args.place ≡ Some e.0) (sym c.self.view_is) e.1 in
    let named = subst (λ (w : WatchedView). IsNamed w.known c.args.watcher) (sym c.self.view_is) c.requires.named in
    keeps_put s.store s.pairs.items s.watchers c.put.new.self c.args.literal c.args.place e.0 c.args.watcher c.self.invariant at e.2 named c.put.ensures

pub put-requires : goal.put-requires
put-requires c =
    let e = c.requires.there in
    let at = subst (λ (w : WatchedView). slice_get (row w.rows c.args.literal) c.args.place ≡ Some e.0) (sym c.self.view_is) e.1 in
    slice_get_within (row c.self.inside.watchers c.args.literal) c.args.place e.0 at

pub returns-clause-put : goal.returns-clause-put
returns-clause-put c = subst (λ (w : WatchedView). IsPut w.rows c.args.literal c.args.place c.args.watcher c.put.new.self) c.self.view_is c.put.ensures
