-- The signals' literals, also of the graph with further nodes.
use Rattle.std.proofs.Common.{ℕ, List}
use Rattle.signal_refine.proofs.Showing.{are_lits, lits_grow}
use Rattle.signal_refine.proofs.refinement.put_signals.Goals as goal

pub returns-then-not-ahead : goal.returns-then-not-ahead
returns-then-not-ahead c = are_lits c.args.nets.now c.args.first c.args.base.now c.signal_literals.new.aig c.in_ok-lits.lits.items c.in_ok-lits.ensures

pub returns : goal.returns
returns c =
    let made = are_lits c.args.nets.now c.args.first c.args.base.now c.signal_literals.new.aig c.in_ok-lits.lits.items c.in_ok-lits.ensures in
    lits_grow c.args.nets.now c.args.first c.signal_literals.new.aig c.put_ahead.new.aig c.in_ok-put_ahead.ensures c.in_ok-lits.lits.items made
