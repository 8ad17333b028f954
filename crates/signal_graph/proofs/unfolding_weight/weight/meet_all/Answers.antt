use Rattle.std.proofs.Common.{◌≡◌, Some, get_or, slice_get, subst, arith}
use Rattle.signal_graph.specs.inner_cone.flat_net.Signal.{Signal}
use Rattle.signal_graph.specs.unfolding_weight.Weight.{Meeting}
use Rattle.signal_graph.proofs.Lists.{read_at}
use Rattle.signal_graph.proofs.unfolding_weight.Weights.{met_more, met_stay, met_there, met_longer, there_more, is_over}
use Rattle.signal_graph.proofs.unfolding_weight.weight.meet_all.Goals as goal

pub loop-signal-init : goal.loop-signal-init
loop-signal-init c = record {
  met = λ outputs visited met. met;
  low = c.requires.low;
  there = λ k r below. absurd (omega (arith, below));
  stay = λ k p h. h;
  longer = omega arith;
}

pub loop-signal-preserved : goal.loop-signal-preserved
loop-signal-preserved c =
    let i = c.loop-signal.signal-index in
    let r : Signal = get_or c.args.reads.now i (record { 0 = 0 }) in
    let at : slice_get c.args.reads.now i ≡ Some r = read_at c.args.reads.now i (record { 0 = 0 }) c.loop-signal-test.true in
    let old = c.loop-signal.places in
    let new = c.meet.new.places in
    let meeting = subst (λ z. Meeting c.args.net.now old new (r.0, c.args.shift) c.loop-signal.sum c.args.cap z) c.in-Some.is c.in_ok-more.ensures in
    let stays = met_stay c.args.net.now old new (r.0, c.args.shift) c.loop-signal.sum c.in-Some.more meeting.0 in
    record {
      met = λ outputs visited met. met_more c.args.net.now outputs old new (r.0, c.args.shift) c.loop-signal.sum c.in-Some.more meeting.0 (c.loop-signal.invariant.met outputs visited met) (visited i r at)
          (c.requires.within i r at) (omega (arith, c.requires.early, c.loop-signal.invariant.longer));
      low = meeting.1;
      there = there_more c.args.reads.now i c.args.shift old new r c.loop-signal.invariant.there stays at (met_there c.args.net.now old new (r.0, c.args.shift) c.loop-signal.sum c.in-Some.more meeting.0);
      stay = λ k p h. stays k p (c.loop-signal.invariant.stay k p h);
      longer = omega (arith, c.loop-signal.invariant.longer, met_longer c.args.net.now old new (r.0, c.args.shift) c.loop-signal.sum c.in-Some.more meeting.0);
    }

pub returns-in-None-clause-over : goal.returns-in-None-clause-over
returns-in-None-clause-over c = λ outputs visited met.
    let i = c.loop-signal.signal-index in
    let r : Signal = get_or c.args.reads.now i (record { 0 = 0 }) in
    let at : slice_get c.args.reads.now i ≡ Some r = read_at c.args.reads.now i (record { 0 = 0 }) c.loop-signal-test.true in
    let old = c.loop-signal.places in
    let new = c.meet.new.places in
    let meeting = subst (λ z. Meeting c.args.net.now old new (r.0, c.args.shift) c.loop-signal.sum c.args.cap z) c.in-None.is c.in_ok-more.ensures in
    is_over c.args.net.now c.keeps.ensures.sound outputs new _
    (met_more c.args.net.now outputs old new (r.0, c.args.shift) c.loop-signal.sum _ meeting.0 (c.loop-signal.invariant.met outputs visited met) (visited i r at)
    (c.requires.within i r at) (omega (arith, c.requires.early, c.loop-signal.invariant.longer))) c.args.cap meeting.1

pub returns-in-None-clause-stay : goal.returns-in-None-clause-stay
returns-in-None-clause-stay c = λ k p h.
    let r : Signal = get_or c.args.reads.now c.loop-signal.signal-index (record { 0 = 0 }) in
    let old = c.loop-signal.places in
    let new = c.meet.new.places in
    let meeting = subst (λ z. Meeting c.args.net.now old new (r.0, c.args.shift) c.loop-signal.sum c.args.cap z) c.in-None.is c.in_ok-more.ensures in
    met_stay c.args.net.now old new (r.0, c.args.shift) c.loop-signal.sum _ meeting.0 k p (c.loop-signal.invariant.stay k p h)

pub returns-clause-there : goal.returns-clause-there
returns-clause-there c = λ k r below at. c.loop-signal.invariant.there k r (omega (arith, below, c.loop-signal-test.false)) at
