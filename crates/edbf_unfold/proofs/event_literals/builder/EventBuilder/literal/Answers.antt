-- What drives the signal says which literal its step has.
use Rattle.std.proofs.Common.{◌∙◌, ◌<◌, length, sym, ap, subst, arith, ◌≤◌}
use Rattle.std.proofs.lemmas.Option.{slice_get_within}
use Rattle.event_nodes.specs.flat_net.Driver.TheVariants as driver
use Rattle.event_nodes.specs.flat_net.View.{NetView}
use Rattle.event_nodes.specs.View.{EventCircuitView}
use Rattle.event_nodes.proofs.flat_net.Drivers.{driven_gate, driven_latch}
use Rattle.edbf_unfold.proofs.event_literals.event_walk.Lent.{drives_of, latch_of_lent, sound_of, order_of}
use Rattle.edbf_unfold.proofs.event_literals.Lits.{grown_none, input_is, gate_is, gate_met, put_is, latch_met, latch_is}
use Rattle.event_nodes.proofs.flat_net.Places.{one_at}
use Rattle.edbf_unfold.specs.declared.event_literals.event_walk.frames.Frame.{Frame}
use Rattle.edbf_unfold.proofs.event_literals.builder.EventBuilder.literal.Goals as goal

pub input_literal-requires-clause-input : goal.input_literal-requires-clause-input
input_literal-requires-clause-input c =
    let u = c.args.self.now in
    let lent = c.circuit-circuit.result.now in
    let sound = sound_of u.circuit lent c.circuit-circuit.ensures c.keeps.ensures.sound in
    let drives = drives_of u.circuit lent c.circuit-circuit.ensures c.net.result.now c.net.ensures c.args.step.signal c.driver.result (driver.Input c.in-Input.i) c.driver.ensures c.in-Input.is in
    let port = sound.drivers c.args.step.signal (driver.Input c.in-Input.i) drives in
    let inside = slice_get_within u.circuit.net.inputs c.in-Input.i port.0 port.1 in
    omega (arith, inside, order_of u.circuit lent c.circuit-circuit.ensures c.keeps.ensures.circuit)

pub gate_literal-requires-clause-gate : goal.gate_literal-requires-clause-gate
gate_literal-requires-clause-gate c =
    let u = c.args.self.now in
    let lent = c.circuit-circuit.result.now in
    let sound = sound_of u.circuit lent c.circuit-circuit.ensures c.keeps.ensures.sound in
    let drives = drives_of u.circuit lent c.circuit-circuit.ensures c.net.result.now c.net.ensures c.args.step.signal c.driver.result (driver.Gate c.in-Gate.j) c.driver.ensures c.in-Gate.is in
    let g = driven_gate u.circuit.net sound c.args.step.signal c.in-Gate.j drives in
    slice_get_within u.circuit.net.gates c.in-Gate.j g.0 g.1

pub gate_literal-requires-clause-met : goal.gate_literal-requires-clause-met
gate_literal-requires-clause-met c =
    let u = c.args.self.now in
    let lent = c.circuit-circuit.result.now in
    let sound = sound_of u.circuit lent c.circuit-circuit.ensures c.keeps.ensures.sound in
    let drives = drives_of u.circuit lent c.circuit-circuit.ensures c.net.result.now c.net.ensures c.args.step.signal c.driver.result (driver.Gate c.in-Gate.j) c.driver.ensures c.in-Gate.is in
    gate_met u sound (order_of u.circuit lent c.circuit-circuit.ensures c.keeps.ensures.circuit) c.args.events.now c.args.step c.in-Gate.j drives c.requires.ready

pub gate_literal-requires-clause-within : goal.gate_literal-requires-clause-within
gate_literal-requires-clause-within c = λ p x h. (c.requires.known p x h).3.within

pub latch_of-requires : goal.latch_of-requires
latch_of-requires c =
    let u = c.args.self.now in
    let lent = c.circuit-circuit.result.now in
    let sound = sound_of u.circuit lent c.circuit-circuit.ensures c.keeps.ensures.sound in
    let drives = drives_of u.circuit lent c.circuit-circuit.ensures c.net.result.now c.net.ensures c.args.step.signal c.driver.result (driver.Latch c.in-Latch.j) c.driver.ensures c.in-Latch.is in
    let l = driven_latch u.circuit.net sound c.args.step.signal c.in-Latch.j drives in
    let inside = slice_get_within u.circuit.net.latches c.in-Latch.j l.0 l.1 in
    subst (λ (n : NetView). c.in-Latch.j < length n.latches) (sym (c.net-in-None.ensures ∙ ap (λ (e : EventCircuitView). e.net) c.circuit-circuit.ensures)) inside

pub met-requires : goal.met-requires
met-requires c =
    let u = c.args.self.now in
    let lent = c.circuit-circuit.result.now in
    let sound = sound_of u.circuit lent c.circuit-circuit.ensures c.keeps.ensures.sound in
    let drives = drives_of u.circuit lent c.circuit-circuit.ensures c.net.result.now c.net.ensures c.args.step.signal c.driver.result (driver.Latch c.in-Latch.j) c.driver.ensures c.in-Latch.is in
    let on = latch_of_lent u.circuit lent c.circuit-circuit.ensures c.net-in-None.result.now c.net-in-None.ensures c.in-Latch.j c.latch_of.result.now c.latch_of.ensures.there in
    let at = c.frame-frame.ensures in
    latch_met u sound (order_of u.circuit lent c.circuit-circuit.ensures c.keeps.ensures.circuit) c.args.events.now c.args.step c.frame-frame.result at c.in-None.ensures.free c.requires.ready c.in-Latch.j c.latch_of.result.now drives on

pub returns-in-Input-clause-known : goal.returns-in-Input-clause-known
returns-in-Input-clause-known c =
    let u = c.args.self.now in
    let lent = c.circuit-circuit.result.now in
    let sound = sound_of u.circuit lent c.circuit-circuit.ensures c.keeps.ensures.sound in
    let drives = drives_of u.circuit lent c.circuit-circuit.ensures c.net.result.now c.net.ensures c.args.step.signal c.driver.result (driver.Input c.in-Input.i) c.driver.ensures c.in-Input.is in
    let at = c.frame-frame.ensures in
    input_is u sound (order_of u.circuit lent c.circuit-circuit.ensures c.keeps.ensures.circuit) c.input_literal.new.events c.args.step.signal c.in-Input.i c.args.step.frame c.frame-frame.result c.input_literal.result at drives c.input_literal.ensures.here

pub returns-in-Gate-clause-known : goal.returns-in-Gate-clause-known
returns-in-Gate-clause-known c =
    let u = c.args.self.now in
    let lent = c.circuit-circuit.result.now in
    let sound = sound_of u.circuit lent c.circuit-circuit.ensures c.keeps.ensures.sound in
    let drives = drives_of u.circuit lent c.circuit-circuit.ensures c.net.result.now c.net.ensures c.args.step.signal c.driver.result (driver.Gate c.in-Gate.j) c.driver.ensures c.in-Gate.is in
    let at = c.frame-frame.ensures in
    gate_is u sound (order_of u.circuit lent c.circuit-circuit.ensures c.keeps.ensures.circuit) c.args.events.now c.gate_literal.new.events c.keeps-2.ensures.events c.gate_literal.ensures.grown.grows c.args.step c.in-Gate.j c.frame-frame.result c.gate_literal.result at drives
    c.requires.ready c.requires.known c.gate_literal.ensures.here

pub returns-in-Some-clause-known : goal.returns-in-Some-clause-known
returns-in-Some-clause-known c =
    let u = c.args.self.now in
    let lent = c.circuit-circuit.result.now in
    let sound = sound_of u.circuit lent c.circuit-circuit.ensures c.keeps.ensures.sound in
    let at = c.frame-frame.ensures in
    put_is u sound (order_of u.circuit lent c.circuit-circuit.ensures c.keeps.ensures.circuit) c.args.events.now c.keeps-2.ensures.events c.args.step.signal c.args.step.frame c.in-Some.lit c.frame-frame.result at c.in-Some.ensures.here

pub returns-in-None-clause-known : goal.returns-in-None-clause-known
returns-in-None-clause-known c =
    let u = c.args.self.now in
    let lent = c.circuit-circuit.result.now in
    let sound = sound_of u.circuit lent c.circuit-circuit.ensures c.keeps.ensures.sound in
    let drives = drives_of u.circuit lent c.circuit-circuit.ensures c.net.result.now c.net.ensures c.args.step.signal c.driver.result (driver.Latch c.in-Latch.j) c.driver.ensures c.in-Latch.is in
    let on = latch_of_lent u.circuit lent c.circuit-circuit.ensures c.net-in-None.result.now c.net-in-None.ensures c.in-Latch.j c.latch_of.result.now c.latch_of.ensures.there in
    let at = c.frame-frame.ensures in
    latch_is u sound (order_of u.circuit lent c.circuit-circuit.ensures c.keeps.ensures.circuit) c.args.events.now c.args.step c.frame-frame.result at c.in-None.ensures.free c.requires.ready c.in-Latch.j c.latch_of.result.now drives on
    c.keeps-2.ensures.events c.requires.known c.met.result c.met.ensures

pub frame-frame-requires : goal.frame-frame-requires
frame-frame-requires c = slice_get_within c.args.self.now.frames c.args.step.frame c.requires.ready.frame c.requires.ready.at

pub returns-in-None-clause-grown : goal.returns-in-None-clause-grown
returns-in-None-clause-grown c = grown_none c.args.events.now _

pub returns-in-Some-clause-grown : goal.returns-in-Some-clause-grown
returns-in-Some-clause-grown c = grown_none c.args.events.now _

pub returns-in-Input-clause-grown : goal.returns-in-Input-clause-grown
returns-in-Input-clause-grown c =
    let u = c.args.self.now in
    let lent = c.circuit-circuit.result.now in
    let drives = drives_of u.circuit lent c.circuit-circuit.ensures c.net.result.now c.net.ensures c.args.step.signal c.driver.result (driver.Input c.in-Input.i) c.driver.ensures c.in-Input.is in
    rw drives c.input_literal.ensures.grown

pub returns-in-Gate-clause-grown : goal.returns-in-Gate-clause-grown
returns-in-Gate-clause-grown c =
    let u = c.args.self.now in
    let lent = c.circuit-circuit.result.now in
    let drives = drives_of u.circuit lent c.circuit-circuit.ensures c.net.result.now c.net.ensures c.args.step.signal c.driver.result (driver.Gate c.in-Gate.j) c.driver.ensures c.in-Gate.is in
    rw drives c.gate_literal.ensures.grown

pub input_literal-requires-clause-nodes : goal.input_literal-requires-clause-nodes
input_literal-requires-clause-nodes c =
    let u = c.args.self.now in
    let lent = c.circuit-circuit.result.now in
    let drives = drives_of u.circuit lent c.circuit-circuit.ensures c.net.result.now c.net.ensures c.args.step.signal c.driver.result (driver.Input c.in-Input.i) c.driver.ensures c.in-Input.is in
    rw drives at c.requires.nodes

pub input_literal-requires-clause-node : goal.input_literal-requires-clause-node
input_literal-requires-clause-node c =
    let ready = c.requires.ready in
    subst (λ (f : Frame). f.node ≤ length c.args.events.now.children) (one_at c.args.self.now.frames c.args.step.frame ready.frame c.frame-frame.result ready.at c.frame-frame.ensures) ready.node

pub gate_literal-requires-clause-nodes : goal.gate_literal-requires-clause-nodes
gate_literal-requires-clause-nodes c =
    let u = c.args.self.now in
    let lent = c.circuit-circuit.result.now in
    let drives = drives_of u.circuit lent c.circuit-circuit.ensures c.net.result.now c.net.ensures c.args.step.signal c.driver.result (driver.Gate c.in-Gate.j) c.driver.ensures c.in-Gate.is in
    rw drives at c.requires.nodes

pub driver-requires : goal.driver-requires
driver-requires c = subst (λ (n : NetView). c.args.step.signal < length n.drivers) (sym (c.net.ensures ∙ ap (λ (e : EventCircuitView). e.net) c.circuit-circuit.ensures)) c.requires.ready.within
