use Rattle.std.proofs.Common.{◌<◌, length, arith, refl}
use Rattle.net_assembly.proofs.NameOrder.{least_moves, least_stays}
use Rattle.flatten.proofs.loops.least.Goals as goal
use Rattle.flatten.proofs.loops.least.Goals.{then-is_before, else-is_before}

pub loop-place-preserved : goal.loop-place-preserved
loop-place-preserved c =
    let l : c.loop-place.place < length c.args.numbers.now = omega arith in
    elim c.if-is_before.branch [
      | then-is_before w ↦ least_moves c.args.flat.now.names c.args.numbers.now c.loop-place.place c.loop-place.least c.name.result.now c.name-in-loop-place.result.now c.loop-place.invariant.0 l c.loop-place.invariant.1
          c.name.ensures c.name-in-loop-place.ensures (w.if-is_before.ensures.yes refl) c.if-is_before.least w.least-is
      | else-is_before w ↦ least_stays c.args.flat.now.names c.args.numbers.now c.loop-place.place c.loop-place.least c.name.result.now c.name-in-loop-place.result.now c.loop-place.invariant.0 l c.loop-place.invariant.1
          c.name.ensures c.name-in-loop-place.ensures (w.if-is_before.ensures.no refl) c.if-is_before.least w.least-is
    ]
