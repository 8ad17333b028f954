-- One fan-in's place more.
use Rattle.std.proofs.Common.{arith}
use Rattle.std.proofs.lemmas.List.{take_all}
use Rattle.cbf_unfold.proofs.unfold_places.ReadPlaces.{fanin_adds, fanin_all}
use Rattle.cbf_unfold.proofs.unfold_places.reads.add_fanins.Goals as goal

pub returns-in_err-add-clause-adds : goal.returns-in_err-add-clause-adds
returns-in_err-add-clause-adds c = fanin_adds c.args.fanins.now c.args.cycle c.loop-fanin.fanin-index _ _ _ _ c.loop-fanin-test.true c.loop-fanin.invariant.adds c.add.ensures.adds

pub loop-fanin-preserved : goal.loop-fanin-preserved
loop-fanin-preserved c = record {
  adds = fanin_adds c.args.fanins.now c.args.cycle c.loop-fanin.fanin-index _ _ _ _ c.loop-fanin-test.true c.loop-fanin.invariant.adds c.add.ensures.adds;
  all = fanin_all c.args.memo.now c.args.fanins.now c.args.cycle c.loop-fanin.fanin-index _ _ _ c.loop-fanin-test.true c.loop-fanin.invariant.all c.add.ensures.adds c.in_ok-add.ensures.here;
  few = omega (arith, c.loop-fanin.invariant.few, c.add.ensures.few);
}

pub returns-clause-all : goal.returns-clause-all
returns-clause-all c = rw (← take_all c.loop-fanin.fanin-index c.args.fanins.now c.loop-fanin-test.false) c.loop-fanin.invariant.all
