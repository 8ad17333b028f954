-- What drives the signal says what its place reads.
use Rattle.std.proofs.Common.{◌≡◌, ◌∙◌, ◌<◌, List, length, slice_get, Some, sym, ap, subst}
use Rattle.std.specs.List.{Contains}
use Rattle.std.proofs.lemmas.Option.{slice_get_within}
use Rattle.event_nodes.specs.flat_net.Signal.{Signal}
use Rattle.event_nodes.specs.flat_net.Driver.TheVariants as driver
use Rattle.event_nodes.specs.flat_net.View.{NetView}
use Rattle.event_nodes.specs.View.{EventCircuitView}
use Rattle.event_nodes.proofs.flat_net.Drivers.{driven_gate, gate_reads_to}
use Rattle.edbf_unfold.proofs.event_literals.event_walk.Lent.{drives_of, sound_of}
use Rattle.edbf_unfold.proofs.event_literals.event_walk.Expanding.{input_expanded}
use Rattle.edbf_unfold.proofs.event_literals.event_walk.Stepping.{ok_apart, step_none, step_gate, gate_goes_on}
use Rattle.edbf_unfold.proofs.event_literals.event_walk.walker.EventWalker.expand.Goals as goal

pub gate_of-gate-requires : goal.gate_of-gate-requires
gate_of-gate-requires c =
    let u = c.args.self.now in
    let lent = c.circuit-circuit.result.now in
    let sound = sound_of u.circuit lent c.circuit-circuit.ensures c.keeps.ensures.sound in
    let drives = drives_of u.circuit lent c.circuit-circuit.ensures c.net.result.now c.net.ensures c.args.place.1 c.driver.result (driver.Gate c.in-Gate.j) c.driver.ensures c.in-Gate.is in
    let g = driven_gate u.circuit.net sound c.args.place.1 c.in-Gate.j drives in
    subst (λ (n : NetView). c.in-Gate.j < length n.gates) (sym (c.net-in-Gate.ensures ∙ ap (λ (e : EventCircuitView). e.net) c.circuit-circuit.ensures)) (slice_get_within u.circuit.net.gates c.in-Gate.j g.0 g.1)

pub returns-in-Input-clause-step : goal.returns-in-Input-clause-step
returns-in-Input-clause-step c = step_none c.args.self.now c.args.events.now c.args.place c.args.table.now

pub returns-in-Input-clause-expanded : goal.returns-in-Input-clause-expanded
returns-in-Input-clause-expanded c =
    let u = c.args.self.now in
    let lent = c.circuit-circuit.result.now in
    let sound = sound_of u.circuit lent c.circuit-circuit.ensures c.keeps.ensures.sound in
    let drives = drives_of u.circuit lent c.circuit-circuit.ensures c.net.result.now c.net.ensures c.args.place.1 c.driver.result (driver.Input c.in-Input.field-0) c.driver.ensures c.in-Input.is in
    input_expanded u.circuit sound u.frames c.args.events.now.children c.args.table.now c.args.place c.requires.seen c.in-Input.field-0 c.stay.result drives

pub returns-in_ok-ways-in-Gate-clause-expanded : goal.returns-in_ok-ways-in-Gate-clause-expanded
returns-in_ok-ways-in-Gate-clause-expanded c =
    let u = c.args.self.now in
    let lent = c.circuit-circuit.result.now in
    let sound = sound_of u.circuit lent c.circuit-circuit.ensures c.keeps.ensures.sound in
    let drives = drives_of u.circuit lent c.circuit-circuit.ensures c.net.result.now c.net.ensures c.args.place.1 c.driver.result (driver.Gate c.in-Gate.j) c.driver.ensures c.in-Gate.is in
    let at = subst (λ (n : NetView). slice_get n.gates c.in-Gate.j ≡ Some c.gate_of-gate.result.now) (c.net-in-Gate.ensures ∙ ap (λ (e : EventCircuitView). e.net) c.circuit-circuit.ensures) c.gate_of-gate.ensures in
    gate_goes_on u c.expand_gate.new.self c.args.events.now sound c.expand_gate.ensures.same c.expand_gate.ensures.frames c.args.place c.as_slice.result.now c.args.table.now c.expand_gate.new.table c.requires.seen c.in-Gate.j c.in_ok-ways-in-Gate.ways c.gate_of-gate.result.now drives at c.as_slice.ensures
    (c.in_ok-ways-in-Gate.ensures.all c.requires.seen.0 c.requires.seen.1)

pub returns-in_ok-ways-in-Gate-clause-step : goal.returns-in_ok-ways-in-Gate-clause-step
returns-in_ok-ways-in-Gate-clause-step c =
    let u = c.args.self.now in
    let lent = c.circuit-circuit.result.now in
    let sound = sound_of u.circuit lent c.circuit-circuit.ensures c.keeps.ensures.sound in
    let drives = drives_of u.circuit lent c.circuit-circuit.ensures c.net.result.now c.net.ensures c.args.place.1 c.driver.result (driver.Gate c.in-Gate.j) c.driver.ensures c.in-Gate.is in
    let at = subst (λ (n : NetView). slice_get n.gates c.in-Gate.j ≡ Some c.gate_of-gate.result.now) (c.net-in-Gate.ensures ∙ ap (λ (e : EventCircuitView). e.net) c.circuit-circuit.ensures) c.gate_of-gate.ensures in
    step_gate u c.expand_gate.new.self c.args.events.now sound c.expand_gate.ensures.same c.expand_gate.ensures.frames c.args.place c.as_slice.result.now c.args.table.now c.expand_gate.new.table c.requires.seen c.expand_gate.ensures.few_frames
    (λ f h. gate_reads_to u.circuit.net sound c.args.place.1 c.in-Gate.j drives c.gate_of-gate.result.now at f (subst (λ (l : List Signal). Contains l f) c.as_slice.ensures h)) (c.expand_gate.ensures.adds c.requires.seen.0 c.requires.seen.1)

pub returns-in_err-ways-in-Gate-clause-step : goal.returns-in_err-ways-in-Gate-clause-step
returns-in_err-ways-in-Gate-clause-step c =
    let u = c.args.self.now in
    let lent = c.circuit-circuit.result.now in
    let sound = sound_of u.circuit lent c.circuit-circuit.ensures c.keeps.ensures.sound in
    let drives = drives_of u.circuit lent c.circuit-circuit.ensures c.net.result.now c.net.ensures c.args.place.1 c.driver.result (driver.Gate c.in-Gate.j) c.driver.ensures c.in-Gate.is in
    let at = subst (λ (n : NetView). slice_get n.gates c.in-Gate.j ≡ Some c.gate_of-gate.result.now) (c.net-in-Gate.ensures ∙ ap (λ (e : EventCircuitView). e.net) c.circuit-circuit.ensures) c.gate_of-gate.ensures in
    step_gate u c.expand_gate.new.self c.args.events.now sound c.expand_gate.ensures.same c.expand_gate.ensures.frames c.args.place c.as_slice.result.now c.args.table.now c.expand_gate.new.table c.requires.seen c.expand_gate.ensures.few_frames
    (λ f h. gate_reads_to u.circuit.net sound c.args.place.1 c.in-Gate.j drives c.gate_of-gate.result.now at f (subst (λ (l : List Signal). Contains l f) c.as_slice.ensures h)) (c.expand_gate.ensures.adds c.requires.seen.0 c.requires.seen.1)

pub returns-in_ok-ways-in-Gate-clause-many : goal.returns-in_ok-ways-in-Gate-clause-many
returns-in_ok-ways-in-Gate-clause-many c = λ is. ok_apart _ _ is

pub returns-in_ok-ways-in-Gate-clause-large : goal.returns-in_ok-ways-in-Gate-clause-large
returns-in_ok-ways-in-Gate-clause-large c = λ is. ok_apart _ _ is

pub returns-in-Input-clause-many : goal.returns-in-Input-clause-many
returns-in-Input-clause-many c = λ is. ok_apart _ _ is

pub returns-in-Input-clause-large : goal.returns-in-Input-clause-large
returns-in-Input-clause-large c = λ is. ok_apart _ _ is

pub driver-requires : goal.driver-requires
driver-requires c = subst (λ (n : NetView). c.args.place.1 < length n.drivers) (sym (c.net.ensures ∙ ap (λ (e : EventCircuitView). e.net) c.circuit-circuit.ensures)) c.requires.seen.3

pub returns-in-Latch-clause-many : goal.returns-in-Latch-clause-many
returns-in-Latch-clause-many c = c.expand_latch.ensures.many

pub returns-in-Latch-clause-large : goal.returns-in-Latch-clause-large
returns-in-Latch-clause-large c = c.expand_latch.ensures.large

pub returns-in-Latch-clause-few : goal.returns-in-Latch-clause-few
returns-in-Latch-clause-few c =
    let u = c.args.self.now in
    let lent = c.circuit-circuit.result.now in
    let drives = drives_of u.circuit lent c.circuit-circuit.ensures c.net.result.now c.net.ensures c.args.place.1 c.driver.result (driver.Latch c.in-Latch.j) c.driver.ensures c.in-Latch.is in
    rw drives c.expand_latch.ensures.few

pub expand_latch-requires-clause-table : goal.expand_latch-requires-clause-table
expand_latch-requires-clause-table c =
    let u = c.args.self.now in
    let lent = c.circuit-circuit.result.now in
    let drives = drives_of u.circuit lent c.circuit-circuit.ensures c.net.result.now c.net.ensures c.args.place.1 c.driver.result (driver.Latch c.in-Latch.j) c.driver.ensures c.in-Latch.is in
    rw drives at c.requires.table
