-- What drives the signal says whether an input does.
use Rattle.std.proofs.Common.{◌∙◌, ℕ, ap, subst, arith, Some, map, get_or}
use Rattle.std.proofs.lemmas.Option.{slice_get_within, slice_get-get_or}
use Rattle.circuit_theory.specs.Tree.{IsInputNumber}
use Rattle.circuit_theory.proofs.Inputs.{beside_is_input}
use Rattle.circuit_theory.proofs.Numbers.{at_beside, slice_get-map}
use Rattle.flat_net.specs.declared.parts.Driver.TheVariants as driver
use Rattle.flat_net.specs.View.{circuit_of, named}
use Rattle.flat_net.proofs.Places.{one_at}
use Rattle.flat_net.proofs.Drivers.{input_owner, no_input_gate, no_input_latch}
use Rattle.cbf_unfold.proofs.unfold_places.variables.input_number.Goals as goal

pub bounds-order-i : goal.bounds-order-i
bounds-order-i c =
    let port = c.keeps.ensures.sound.drivers c.args.s.0 (driver.Input c.in-Input.i) (c.driver.ensures ∙ ap Some c.in-Input.is) in
    let inside = slice_get_within c.args.net.now.inputs c.in-Input.i port.0 port.1 in
    omega (arith, inside, c.requires.order.each)

pub returns-in-Input-clause-here : goal.returns-in-Input-clause-here
returns-in-Input-clause-here c =
    let port = c.keeps.ensures.sound.drivers c.args.s.0 (driver.Input c.in-Input.i) (c.driver.ensures ∙ ap Some c.in-Input.is) in
    let inside = slice_get_within c.args.net.now.inputs c.in-Input.i port.0 port.1 in
    let number = slice_get-get_or c.args.order.now c.in-Input.i 0 (omega (arith, inside, c.requires.order.each)) in
    subst (λ (s : ℕ). IsInputNumber (circuit_of c.args.net.now) c.args.order.now s (get_or c.args.order.now c.in-Input.i 0)) port.2
    (at_beside (map named c.args.net.now.inputs) c.args.order.now c.in-Input.i (get_or c.args.order.now c.in-Input.i 0) (named port.0) (slice_get-map named c.args.net.now.inputs c.in-Input.i port.0 port.1) number)

pub returns-in-Gate-clause-none : goal.returns-in-Gate-clause-none
returns-in-Gate-clause-none c = λ number beside.
    let i = input_owner _ c.keeps.ensures.sound c.args.s.0 (beside_is_input (circuit_of c.args.net.now).inputs c.args.order.now c.args.s.0 number beside) in
    no_input_gate (one_at c.args.net.now.drivers c.args.s.0 _ _ i.4 (c.driver.ensures ∙ ap Some c.in-Gate.is))

pub returns-in-Latch-clause-none : goal.returns-in-Latch-clause-none
returns-in-Latch-clause-none c = λ number beside.
    let i = input_owner _ c.keeps.ensures.sound c.args.s.0 (beside_is_input (circuit_of c.args.net.now).inputs c.args.order.now c.args.s.0 number beside) in
    no_input_latch (one_at c.args.net.now.drivers c.args.s.0 _ _ i.4 (c.driver.ensures ∙ ap Some c.in-Latch.is))
