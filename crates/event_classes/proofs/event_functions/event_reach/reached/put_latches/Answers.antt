-- One signal more.
use Rattle.std.proofs.Common.{◌∙◌, ◌<◌, Some, ap, arith}
use Rattle.std.proofs.lemmas.Option.{slice_get-get_or}
use Rattle.event_classes.proofs.event_functions.event_reach.Latches.{root_adds, root_more, root_skip}
use Rattle.event_classes.proofs.event_functions.event_reach.reached.put_latches.Goals.{in-Latch+in_ok-put, in_default}
use Rattle.event_classes.proofs.event_functions.event_reach.reached.put_latches.Goals as goal

pub returns-in_err-put-clause-adds : goal.returns-in_err-put-clause-adds
returns-in_err-put-clause-adds c = root_adds c.args.net.now c.keeps.ensures.sound c.args.signals.now _ _ _ c.loop-at.at _ _ c.key-signal.ensures (c.driver.ensures ∙ ap Some c.in-Latch.is) c.loop-at.invariant.adds c.put.ensures.adds

pub loop-at-preserved : goal.loop-at-preserved
loop-at-preserved c = elim c.match-driver.branch [
  | in-Latch+in_ok-put w ↦ rw w.table-is record {
    adds = root_adds c.args.net.now c.keeps.ensures.sound c.args.signals.now _ _ _ c.loop-at.at _ _ c.key-signal.ensures (c.driver.ensures ∙ ap Some w.in-Latch.is) c.loop-at.invariant.adds w.put.ensures.adds;
    all = root_more c.args.net.now c.args.signals.now _ _ c.loop-at.at _ c.key-signal.ensures c.loop-at.invariant.all w.put.ensures.adds w.in_ok-put.ensures.here;
    few = w.in_ok-put.ensures.few;
  }
  | in_default w ↦ rw w.table-is record {
    adds = c.loop-at.invariant.adds;
    all = root_skip c.args.net.now c.keeps.ensures.sound c.args.signals.now _ c.loop-at.at _ _ c.key-signal.ensures c.driver.ensures w.in_default.not-Latch c.loop-at.invariant.all;
    few = c.loop-at.invariant.few;
  }
]

pub returns-clause-all : goal.returns-clause-all
returns-clause-all c = λ v name next among latch.
    let in_keys : among.0 < c.loop-at.at = omega (arith, c.len-at-end.ensures, c.loop-at-test.false, among.1) in
    c.loop-at.invariant.all among.0 v name next in_keys (slice_get-get_or c.args.signals.now among.0 v among.1 ∙ ap Some among.2) latch
