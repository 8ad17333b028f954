use Rattle.std.proofs.Common.{◌≡◌, length, sym, ap, subst, arith, refl, Some, List}
use Rattle.std.specs.Prelude.{slice_get}
use Rattle.std.proofs.lemmas.Option.{slice_get_within}
use Rattle.clause_watch.specs.Rows.{row, IsAdded}
use Rattle.clause_watch.specs.TwoWatches.{WatchedView, IsWatch}
use Rattle.clause_watch.specs.declared.watchers.Watcher.{Watcher}
use Rattle.clause_watch.proofs.Keeping.{keeps_same, keeps_rewatched}
use Rattle.clause_watch.specs.declared.pair.Pair.{Pair}
use Rattle.std.proofs.Math.ListN.{set}
use Rattle.clause_watch.proofs.watched_clauses.WatchedClauses.rewatch.Goals as goal

pub invariant_of-self : goal.invariant_of-self
invariant_of-self c =
    let s = c.self.inside in
    keeps_same s.store s.pairs.items s.watchers c.add.new.self c.self.invariant c.in_err-add.ensures.err

pub index_mut-requires : goal.index_mut-requires
index_mut-requires c =
    let was = subst (λ (w : WatchedView). IsWatch w.pairs c.args.number c.args.other) (sym c.self.view_is) c.requires.watched in
    omega (arith, slice_get_within c.self.inside.pairs.items c.args.number was.0 was.1, c.self.inside.pairs.ok.0)

pub remove-requires : goal.remove-requires
remove-requires c =
    let s = c.self.inside in
    let e = c.requires.there in
    let at = subst (λ (w : WatchedView). slice_get (row w.rows c.args.literal) c.args.place ≡ Some e.0) (sym c.self.view_is) e.1 in
    let same : length (row c.add.new.self c.args.literal) ≡ length (row s.watchers c.args.literal) = ap (λ (r : List Watcher). length r) (c.in_ok-add.ensures.ok.others c.args.literal (λ q. c.requires.differ (sym q))) in
    omega (arith, slice_get_within (row s.watchers c.args.literal) c.args.place e.0 at, same)

pub invariant_of-self-2 : goal.invariant_of-self-2
invariant_of-self-2 c =
    let s = c.self.inside in
    let e = c.requires.there in
    let own = c.requires.own in
    let at = subst (λ (w : WatchedView). slice_get (row w.rows c.args.literal) c.args.place ≡ Some e.0) (sym c.self.view_is) e.1 in
    let there = subst (λ (w : WatchedView). slice_get w.known c.args.number ≡ Some own.0) (sym c.self.view_is) own.1 in
    let was = subst (λ (w : WatchedView). IsWatch w.pairs c.args.number c.args.other) (sym c.self.view_is) c.requires.watched in
    keeps_rewatched s.store s.pairs.items _ s.watchers c.remove.new.self c.args.literal c.args.place c.args.number e.0 own.0 c.args.other c.args.next
    c.self.invariant at e.2 there was c.requires.apart own.2 c.requires.differ
    (record { between = c.add.new.self; added = c.in_ok-add.ensures.ok; written = refl; removed = c.remove.ensures })

pub returns-clause-moved : goal.returns-clause-moved
returns-clause-moved c =
    let pair : Pair = record { first = c.args.other; second = c.args.next } in
    let watcher : Watcher = record { clause = c.args.number; blocker = c.args.other } in
    record {
      between = c.add.new.self;
      added = subst (λ (v : WatchedView). IsAdded v.rows c.args.next watcher c.add.new.self) c.self.view_is c.in_ok-add.ensures.ok;
      written = ap (λ (v : WatchedView). set v.pairs c.args.number pair) c.self.view_is;
      removed = c.remove.ensures;
    }
