use Rattle.std.proofs.Common.{refl, arith}
use Rattle.sat_search.proofs.Searching.{search_start, search_refuted}
use Rattle.sat_search.proofs.solver.refute.Goals as goal

pub returns : goal.returns
returns c =
    let t = c.args.trail.now in
    let s = search_start c.args.store.now t.variables c.args.conflicts c.args.store.now t c.new-log.result refl refl c.new-log.ensures c.requires.range c.requires.numbers c.requires.trail in
    search_refuted c.args.store.now t.variables c.args.conflicts c.args.store.now t c.new-log.result c.push.new.self c.in_ok-chain.chain s (rw c.new-log.ensures (omega (arith, c.if-conflicts-eq0.false))) c.in_ok-chain.ensures c.in_ok-push.ensures.ok
