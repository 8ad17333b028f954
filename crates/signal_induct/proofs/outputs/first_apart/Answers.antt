use Rattle.std.proofs.Common.{sym}
use Rattle.signal_induct.proofs.Firsts.{apart, equal, none_found}
use Rattle.signal_induct.proofs.outputs.first_apart.Goals as goal

pub returns-then-apart : goal.returns-then-apart
returns-then-apart c = sym (apart c.args.pairs.now c.loop-pair.pair-index c.pair-item.result c.loop-pair.invariant c.loop-pair-test.true c.pair-item.is c.if-apart.true)

pub loop-pair-preserved : goal.loop-pair-preserved
loop-pair-preserved c = equal c.args.pairs.now c.loop-pair.pair-index c.pair-item.result c.loop-pair.invariant c.loop-pair-test.true c.pair-item.is c.if-apart.false

pub returns : goal.returns
returns c = sym (none_found c.args.pairs.now c.loop-pair.pair-index c.loop-pair.invariant c.loop-pair-test.false)
