-- What drives the signal says whether a variable stands for the place.
use Rattle.std.proofs.Common.{◌∙◌, ap, arith, Some}
use Rattle.std.proofs.lemmas.Option.{slice_get_within, slice_get-get_or}
use Rattle.flat_net.specs.declared.parts.Driver.TheVariants as driver
use Rattle.reset_form.proofs.reset_unfold.Numbers.{input_leaf, gate_leaf, latch_here, latch_none}
use Rattle.reset_form.proofs.reset_unfold.leaves.leaf_number.Goals as goal

pub bounds-order-i : goal.bounds-order-i
bounds-order-i c =
    let port = c.keeps.ensures.sound.drivers c.args.place.1 (driver.Input c.in-Input.i) (c.driver.ensures ∙ ap Some c.in-Input.is) in
    let inside = slice_get_within c.args.net.now.inputs c.in-Input.i port.0 port.1 in
    omega (arith, inside, c.requires.order.each)

pub returns-in-Input-clause-here : goal.returns-in-Input-clause-here
returns-in-Input-clause-here c =
    let port = c.keeps.ensures.sound.drivers c.args.place.1 (driver.Input c.in-Input.i) (c.driver.ensures ∙ ap Some c.in-Input.is) in
    let inside = slice_get_within c.args.net.now.inputs c.in-Input.i port.0 port.1 in
    input_leaf _ c.keeps.ensures.sound c.args.order.now c.args.base c.args.place c.in-Input.i _ (c.driver.ensures ∙ ap Some c.in-Input.is)
    (slice_get-get_or c.args.order.now c.in-Input.i 0 (omega (arith, inside, c.requires.order.each)))

pub returns-in-Gate-clause-none : goal.returns-in-Gate-clause-none
returns-in-Gate-clause-none c = gate_leaf _ c.keeps.ensures.sound c.args.order.now c.args.base c.args.place _ (c.driver.ensures ∙ ap Some c.in-Gate.is)

pub free_number-requires-clause-drives : goal.free_number-requires-clause-drives
free_number-requires-clause-drives c = c.driver.ensures ∙ ap Some c.in-Latch.is

pub returns-in-Latch-clause-here : goal.returns-in-Latch-clause-here
returns-in-Latch-clause-here c = latch_here _ c.keeps.ensures.sound c.args.order.now c.args.base c.args.place _ (c.driver.ensures ∙ ap Some c.in-Latch.is) _ c.free_number.ensures.here

pub returns-in-Latch-clause-none : goal.returns-in-Latch-clause-none
returns-in-Latch-clause-none c = latch_none _ c.keeps.ensures.sound c.args.order.now c.args.base c.args.place _ (c.driver.ensures ∙ ap Some c.in-Latch.is) _ c.free_number.ensures.none
