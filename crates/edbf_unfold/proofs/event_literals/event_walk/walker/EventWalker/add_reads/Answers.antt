-- One fan-in's place more.
use Rattle.std.proofs.Common.{arith}
use Rattle.std.proofs.lemmas.List.{take_all}
use Rattle.edbf_unfold.proofs.event_literals.event_walk.Reading.{reads_next, all_next}
use Rattle.edbf_unfold.proofs.event_literals.event_walk.walker.EventWalker.add_reads.Goals as goal

pub returns-in_err-add-clause-adds : goal.returns-in_err-add-clause-adds
returns-in_err-add-clause-adds c = reads_next c.args.self.now.circuit.net c.args.put c.args.own c.args.free c.args.fanins.now c.loop-fanin.fanin-index _ c.frame_for-frame.result _ _ _ c.loop-fanin-test.true c.frame_for-frame.ensures c.loop-fanin.invariant.adds c.add.ensures.adds

pub loop-fanin-preserved : goal.loop-fanin-preserved
loop-fanin-preserved c = record {
  adds = reads_next c.args.self.now.circuit.net c.args.put c.args.own c.args.free c.args.fanins.now c.loop-fanin.fanin-index _ c.frame_for-frame.result _ _ _ c.loop-fanin-test.true c.frame_for-frame.ensures c.loop-fanin.invariant.adds c.add.ensures.adds;
  all = all_next c.args.self.now.circuit.net c.args.put c.args.own c.args.free c.args.fanins.now c.loop-fanin.fanin-index _ c.frame_for-frame.result _ _ c.loop-fanin-test.true c.frame_for-frame.ensures c.loop-fanin.invariant.all c.add.ensures.adds c.in_ok-add.ensures.here;
  few = omega (arith, c.loop-fanin.invariant.few, c.add.ensures.few);
}

pub returns-clause-all : goal.returns-clause-all
returns-clause-all c = rw (← take_all c.loop-fanin.fanin-index c.args.fanins.now c.loop-fanin-test.false) c.loop-fanin.invariant.all
