use Rattle.std.proofs.Common.{◌<◌, length, get_or, arith}
use Rattle.circuit_theory.specs.Query.{bits_of}
use Rattle.aig.proofs.lane_eval.root_classes.Assigned.{low-step, bits-step}
use Rattle.aig.proofs.lane_eval.root_classes.narrow.assign.Goals as goal

pub loop-k-preserved : goal.loop-k-preserved
loop-k-preserved c =
    let low = low-step c.args.number (length c.args.vars.now) c.loop-k.k c.loop-k.rest c.loop-k-test.true c.loop-k.invariant.rest in
    let within : get_or c.args.vars.now c.loop-k.k 0 < length c.loop-k.assignment = omega (arith, c.requires.within c.loop-k.k 0 c.loop-k-test.true, c.loop-k.auto.assignment) in
    record {
      rest = low.1;
      bits = bits-step c.args.vars.now (bits_of c.args.number (length c.args.vars.now)) c.loop-k.k c.loop-k.assignment _ c.requires.distinct c.loop-k-test.true within low.0 c.loop-k.invariant.bits;
    }
