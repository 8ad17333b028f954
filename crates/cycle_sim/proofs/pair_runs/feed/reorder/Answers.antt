use Rattle.std.proofs.Common.{arith}
use Rattle.std.proofs.lemmas.Option.{slice_get_within}
use Rattle.cycle_sim.proofs.Lists.{map_is}
use Rattle.cycle_sim.specs.pair_runs.Feeding.{bit_of}
use Rattle.cycle_sim.proofs.pair_runs.feed.reorder.Goals as goal

pub returns : goal.returns
returns c =
    map_is (bit_of c.args.row.now) c.args.columns.now c.loop-i.bits (omega (arith, c.loop-i.auto.bits, c.requires.size))
    (λ k x at. c.loop-i.invariant k x (let w = slice_get_within c.args.columns.now k x at in omega (arith, w, c.loop-i-test.false)) at)
