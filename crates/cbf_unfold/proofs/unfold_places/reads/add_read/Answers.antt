-- What drives the signal says what its place reads.
use Rattle.std.proofs.Common.{◌∙◌, ap, Some, arith}
use Rattle.std.proofs.lemmas.Option.{slice_get_within}
use Rattle.cbf_unfold.specs.unfold_places.Reach.{IsThere}
use Rattle.flat_net.proofs.Drivers.{driven_gate, driven_latch}
use Rattle.cbf_unfold.proofs.unfold_places.Steps.{input_steps, latch_back}
use Rattle.cbf_unfold.proofs.unfold_places.ReadPlaces.{gate_adds, gate_all_ok, latch_adds, latch_all_ok}
use Rattle.cbf_unfold.proofs.unfold_places.reads.add_read.Goals as goal

pub gate_of-requires : goal.gate_of-requires
gate_of-requires c =
    let g = driven_gate _ c.keeps.ensures.sound _ _ (c.driver.ensures ∙ ap Some c.in-Gate.is) in
    slice_get_within _ _ g.0 g.1

pub latch_of-requires : goal.latch_of-requires
latch_of-requires c =
    let l = driven_latch _ c.keeps.ensures.sound _ _ (c.driver.ensures ∙ ap Some c.in-Latch.is) in
    slice_get_within _ _ l.0 l.1

pub returns-in-Input-clause-all : goal.returns-in-Input-clause-all
returns-in-Input-clause-all c = λ q steps. absurd (input_steps _ c.keeps.ensures.sound _ _ _ q (c.driver.ensures ∙ ap Some c.in-Input.is) steps)

pub returns-in-Gate-clause-adds : goal.returns-in-Gate-clause-adds
returns-in-Gate-clause-adds c =
    gate_adds _ c.keeps.ensures.sound _ _ _ _ _ (c.driver.ensures ∙ ap Some c.in-Gate.is) _ c.gate_of.ensures _ c.as_slice.ensures c.add_fanins.ensures.adds

pub returns-in-Gate-clause-all : goal.returns-in-Gate-clause-all
returns-in-Gate-clause-all c =
    gate_all_ok _ c.keeps.ensures.sound _ _ _ c.args.table.now c.args.table.now (c.driver.ensures ∙ ap Some c.in-Gate.is) _ c.gate_of.ensures _ c.as_slice.ensures (IsThere c.args.memo.now c.add_fanins.new.table) _ c.add_fanins.ensures.all

pub returns-then-cycle-eq0-clause-all : goal.returns-then-cycle-eq0-clause-all
returns-then-cycle-eq0-clause-all c = λ q steps.
    let drives = c.driver.ensures ∙ ap Some c.in-Latch.is in
    let l = driven_latch _ c.keeps.ensures.sound _ _ drives in
    let back = latch_back _ c.keeps.ensures.sound _ _ drives l.0 l.1 _ q steps in
    absurd (omega (arith, back, c.if-cycle-eq0.true))

pub returns-else-cycle-eq0-clause-adds : goal.returns-else-cycle-eq0-clause-adds
returns-else-cycle-eq0-clause-adds c =
    latch_adds _ c.keeps.ensures.sound _ _ _ _ _ (c.driver.ensures ∙ ap Some c.in-Latch.is) _ c.latch_of.ensures.there (omega (arith, c.if-cycle-eq0.false)) c.add.ensures.adds

pub returns-else-cycle-eq0-clause-all : goal.returns-else-cycle-eq0-clause-all
returns-else-cycle-eq0-clause-all c =
    latch_all_ok _ c.keeps.ensures.sound _ _ _ c.args.table.now c.args.table.now (c.driver.ensures ∙ ap Some c.in-Latch.is) _ c.latch_of.ensures.there (IsThere c.args.memo.now c.add.new.table) _ c.add.ensures.here
