-- One latch's place more.
use Rattle.std.proofs.lemmas.List.{take_all}
use Rattle.event_nodes.proofs.ReadPlaces.{fanin_adds, fanin_all}
use Rattle.event_classes.proofs.event_functions.event_reach.reached.put_all.Goals as goal

pub returns-in_err-put-clause-adds : goal.returns-in_err-put-clause-adds
returns-in_err-put-clause-adds c = fanin_adds c.args.latches.now c.args.node c.loop-latch.latch-index _ _ _ _ c.loop-latch-test.true c.loop-latch.invariant.adds c.put.ensures.adds

pub loop-latch-preserved : goal.loop-latch-preserved
loop-latch-preserved c = record {
  adds = fanin_adds c.args.latches.now c.args.node c.loop-latch.latch-index _ _ _ _ c.loop-latch-test.true c.loop-latch.invariant.adds c.put.ensures.adds;
  all = fanin_all c.args.latches.now c.args.node c.loop-latch.latch-index _ _ _ c.loop-latch-test.true c.loop-latch.invariant.all c.put.ensures.adds c.in_ok-put.ensures.here;
  few = c.in_ok-put.ensures.few;
}

pub returns-clause-all : goal.returns-clause-all
returns-clause-all c = rw (← take_all c.loop-latch.latch-index c.args.latches.now c.loop-latch-test.false) c.loop-latch.invariant.all
