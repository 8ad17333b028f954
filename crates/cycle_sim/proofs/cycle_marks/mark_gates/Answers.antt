-- The gate that the loop is at is marked where its fan-ins are.
use Rattle.std.proofs.Common.{◌≡◌, ◌<◌, ◌∙◌, length, get_or, false, sym, ap, subst, arith}
use Rattle.std.specs.Prelude.{All}
use Rattle.std.specs.List.{list_all}
use Rattle.std.proofs.lemmas.Option.{slice_get_within}
use Rattle.flat_net.specs.declared.signals.Signal.{Signal}
use Rattle.flat_net.proofs.Places.{fanins_within}
use Rattle.cycle_sim.specs.View.{HasMark}
use Rattle.cycle_sim.proofs.Lists.{item_at, gate_within, all_driven}
use Rattle.cycle_sim.proofs.Marks.{gates_marked_more}
use Rattle.cycle_sim.proofs.cycle_marks.mark_gates.Goals as goal

pub are_marked-settled-requires : goal.are_marked-settled-requires
are_marked-settled-requires c =
    let at = item_at c.args.net.now.gates _ c.loop-gate.gate-index c.gate-item.result c.gates-gate-items.ensures c.loop-gate-test.true c.gate-item.is in
    let size : length c.args.net.now.drivers ≡ length c.loop-gate.marks = omega (arith, c.loop-gate.auto.marks, c.requires) in
    subst (λ fs. All (λ (f : Signal). f.0 < length c.loop-gate.marks) fs) (sym c.as_slice.ensures)
    (subst (λ m. All (λ (f : Signal). f.0 < m) c.gate-item.result.fanins) size (fanins_within c.args.net.now c.keeps.ensures.sound c.loop-gate.gate-index c.gate-item.result at))

pub bounds-marks-gate : goal.bounds-marks-gate
bounds-marks-gate c =
    let at = item_at c.args.net.now.gates _ c.loop-gate.gate-index c.gate-item.result c.gates-gate-items.ensures c.loop-gate-test.true c.gate-item.is in
    let within = gate_within c.args.net.now c.keeps.ensures.sound c.loop-gate.gate-index c.gate-item.result at in
    omega (arith, within, c.loop-gate.auto.marks, c.requires)

pub loop-gate-preserved : goal.loop-gate-preserved
loop-gate-preserved c =
    let net = c.args.net.now in
    let gate = c.gate-item.result in
    let at = item_at net.gates _ c.loop-gate.gate-index gate c.gates-gate-items.ensures c.loop-gate-test.true c.gate-item.is in
    let within = gate_within net c.keeps.ensures.sound c.loop-gate.gate-index gate at in
    let below : gate.out.0 < length c.loop-gate.marks = omega (arith, within, c.loop-gate.auto.marks, c.requires) in
    let value : c.are_marked-settled.result ≡ list_all (λ (f : Signal). get_or c.loop-gate.marks f.0 false) gate.fanins =
    c.are_marked-settled.ensures ∙ ap (list_all (λ (f : Signal). get_or c.loop-gate.marks f.0 false)) c.as_slice.ensures in
    λ enabled run t inputs latches.
    gates_marked_more net c.keeps.ensures.sound enabled run t c.loop-gate.marks c.loop-gate.gate-index gate c.are_marked-settled.result at below value (c.loop-gate.invariant enabled run t inputs latches)

pub returns-clause-put : goal.returns-clause-put
returns-clause-put c = λ enabled run t inputs latches.
    let have = c.loop-gate.invariant enabled run t inputs latches in
    all_driven c.args.net.now c.keeps.ensures.sound (λ s. HasMark c.args.net.now enabled run t c.loop-gate.marks s s) have.inputs have.latches
    (λ k g h at. have.gates k g (let w = slice_get_within c.args.net.now.gates k g at in let e = ap length c.gates-gate-items.ensures in omega (arith, w, e)) at)
