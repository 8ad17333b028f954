use Rattle.std.proofs.Common.{◌+◌, get_or, subst, sym}
use Rattle.std.proofs.lemmas.Option.{slice_get_within}
use Rattle.signal_graph.specs.flat_net.Signal.{Signal}
use Rattle.latch_graph.specs.declared.states.State.TheVariants.{New}
use Rattle.signal_graph.proofs.Lists.{read_at}
use Rattle.latch_graph.proofs.Tables.{IsGreatestBefore, told_depth, greatest_none, greatest_same, greatest_more, greatest_all}
use Rattle.latch_graph.proofs.states.greatest.Goals as goal
use Rattle.latch_graph.proofs.states.greatest.Goals.{then-most-depth, else-most-depth}

pub loop-signal-init : goal.loop-signal-init
loop-signal-init c = greatest_none c.args.states.now c.args.reads.now

pub loop-signal-preserved : goal.loop-signal-preserved
loop-signal-preserved c =
    let i = c.loop-signal.signal-index in
    let at = read_at c.args.reads.now i (record { 0 = 0 }) c.loop-signal-test.true in
    let r : Signal = get_or c.args.reads.now i (record { 0 = 0 }) in
    let e = told_depth c.args.states.now r.0 New c.depth-depth.result (c.requires i r at) c.depth-depth.ensures in
    elim c.if-most-depth.branch [
      | then-most-depth w ↦ subst (λ m. IsGreatestBefore c.args.states.now c.args.reads.now (i + 1) m) (sym w.most-is)
          (greatest_more c.args.states.now c.args.reads.now i c.loop-signal.most c.depth-depth.result r c.loop-signal.invariant at e w.if-most-depth.true)
      | else-most-depth w ↦ subst (λ m. IsGreatestBefore c.args.states.now c.args.reads.now (i + 1) m) (sym w.most-is)
          (greatest_same c.args.states.now c.args.reads.now i c.loop-signal.most c.depth-depth.result r c.loop-signal.invariant at e w.if-most-depth.false)
    ]

pub returns : goal.returns
returns c = greatest_all c.args.states.now c.args.reads.now c.loop-signal.signal-index c.loop-signal.most c.loop-signal.invariant c.loop-signal-test.false

pub bounds-states-signal : goal.bounds-states-signal
bounds-states-signal c =
    let i = c.loop-signal.signal-index in
    let r : Signal = get_or c.args.reads.now i (record { 0 = 0 }) in
    let known = c.requires i r (read_at c.args.reads.now i (record { 0 = 0 }) c.loop-signal-test.true) in
    slice_get_within c.args.states.now r.0 known.1.0 known.1.1
