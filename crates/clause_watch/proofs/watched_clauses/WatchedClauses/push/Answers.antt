use Rattle.std.proofs.Common.{◌≡◌, ◌≤◌, length, arith, ℕ, subst}
use Rattle.clause_watch.specs.TwoWatches.{KeepsWatches, WatchedView, IsPushed, IsInBothRows}
use Rattle.clause_watch.proofs.Keeping.{keeps_as, keeps_same, keeps_short_either, keeps_long_as, ok_of}
use Rattle.clause_watch.proofs.watched_clauses.WatchedClauses.push.Goals as goal

pub invariant_of-self : goal.invariant_of-self
invariant_of-self c =
    let s = c.self.inside in
    let e = c.push_both.ensures in
    keeps_short_either s.store c.push_both.new.store c.args.clause.now s.pairs.items c.push_both.new.pairs.items c.args.pair s.watchers c.push_both.result c.self.invariant (omega (arith, c.if-clause-lt2.true)) e.stored e.paired e.same_store e.same_pairs

pub returns-then-clause-lt2-clause-kept : goal.returns-then-clause-lt2-clause-kept
returns-then-clause-lt2-clause-kept c =
    let s = c.self.inside in
    let e = c.push_both.ensures in
    ok_of (KeepsWatches c.push_both.new.store c.push_both.new.pairs.items s.watchers) c.push_both.result
    (keeps_short_either s.store c.push_both.new.store c.args.clause.now s.pairs.items c.push_both.new.pairs.items c.args.pair s.watchers c.push_both.result c.self.invariant (omega (arith, c.if-clause-lt2.true)) e.stored e.paired e.same_store e.same_pairs)

pub invariant_of-self-in_err-add_both : goal.invariant_of-self-in_err-add_both
invariant_of-self-in_err-add_both c =
    let s = c.self.inside in
    keeps_same s.store s.pairs.items s.watchers c.add_both.new.self c.self.invariant c.in_err-add_both.ensures.err

pub invariant_of-self-in-Ok : goal.invariant_of-self-in-Ok
invariant_of-self-in-Ok c =
    let s = c.self.inside in
    let long : 2 ≤ length c.args.clause.now = omega (arith, c.if-clause-lt2.false) in
    keeps_long_as s.store c.push_both-2.new.store c.args.clause.now s.pairs.items c.push_both-2.new.pairs.items c.args.pair s.watchers c.add_both.new.self c.len-number.result
    c.self.invariant long (c.requires.own long) (omega (arith, c.len-number.ensures)) c.in_ok-add_both.ensures.ok c.in-Ok.ensures.stored c.in-Ok.ensures.paired

pub invariant_of-self-in-Err : goal.invariant_of-self-in-Err
invariant_of-self-in-Err c =
    let s = c.self.inside in
    keeps_same c.push_both-2.new.store c.push_both-2.new.pairs.items s.watchers c.pop_both.new.self
    (keeps_as s.store c.push_both-2.new.store s.pairs.items c.push_both-2.new.pairs.items s.watchers c.self.invariant c.in-Err.ensures.same_store c.in-Err.ensures.same_pairs)
    (c.pop_both.ensures s.watchers c.len-number.result c.in_ok-add_both.ensures.ok)

pub returns-in-Ok-clause-kept : goal.returns-in-Ok-clause-kept
returns-in-Ok-clause-kept c =
    let s = c.self.inside in
    let long : 2 ≤ length c.args.clause.now = omega (arith, c.if-clause-lt2.false) in
    keeps_long_as s.store c.push_both-2.new.store c.args.clause.now s.pairs.items c.push_both-2.new.pairs.items c.args.pair s.watchers c.add_both.new.self c.len-number.result
    c.self.invariant long (c.requires.own long) (omega (arith, c.len-number.ensures)) c.in_ok-add_both.ensures.ok c.in-Ok.ensures.stored c.in-Ok.ensures.paired

pub pop_both-requires : goal.pop_both-requires
pop_both-requires c = (c.self.inside.watchers, c.len-number.result, c.in_ok-add_both.ensures.ok)

pub push_both-requires-2 : goal.push_both-requires-2
push_both-requires-2 c = c.requires.clause

pub returns-in-Ok-clause-pushed : goal.returns-in-Ok-clause-pushed
returns-in-Ok-clause-pushed c =
    let s = c.self.inside in
    let number : c.len-number.result ≡ length s.store = omega (arith, c.len-number.ensures) in
    let new : WatchedView = record { known = c.push_both-2.new.store; pairs = c.push_both-2.new.pairs.items; rows = c.add_both.new.self } in
    subst (λ (v : WatchedView). IsPushed v c.args.clause.now c.args.pair new) c.self.view_is (record {
      stored = c.in-Ok.ensures.stored;
      paired = c.in-Ok.ensures.paired;
      short = λ below. absurd (omega (arith, below, c.if-clause-lt2.false));
      long = λ long. subst (λ (n : ℕ). IsInBothRows s.watchers n c.args.pair.first c.args.pair.second c.add_both.new.self) number c.in_ok-add_both.ensures.ok;
    })
