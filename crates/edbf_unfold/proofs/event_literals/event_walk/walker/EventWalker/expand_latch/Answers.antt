-- A latch that is put takes over nothing. Another one takes over its data in the frames in which it goes on, at its child.
use Rattle.std.proofs.Common.{◌≡◌, ◌∙◌, ◌+◌, ◌^◌, ◌<◌, ℕ, length, slice_get, Some, sym, ap, subst, rules, ◌≤◌}
use Rattle.std.proofs.lemmas.Option.{slice_get_within}
use Rattle.event_nodes.specs.flat_net.Driver.TheVariants as driver
use Rattle.event_nodes.specs.flat_net.Sound.{IsSound}
use Rattle.event_nodes.specs.Adds.{Adds}
use Rattle.event_nodes.specs.Nodes.{IsChild}
use Rattle.event_nodes.specs.View.{EventCircuitView, side_of}
use Rattle.event_nodes.proofs.flat_net.Drivers.{driven_latch}
use Rattle.event_nodes.proofs.Growing.{children_more}
use Rattle.event_nodes.proofs.Lists.{adds_at}
use Rattle.edbf_unfold.specs.declared.event_literals.event_walk.frames.Frame.{Frame}
use Rattle.circuit_theory.specs.Frame.{NotPut}
use Rattle.edbf_unfold.specs.event_literals.event_walk.Ready.{EventWalkerView, put_of}
use Rattle.edbf_unfold.specs.event_literals.event_walk.Walk.{IsEntry, AreWays}
use Rattle.edbf_unfold.proofs.event_literals.event_walk.Expanding.{latch_expanded, put_expanded}
use Rattle.edbf_unfold.proofs.event_literals.event_walk.Lent.{sound_of}
use Rattle.edbf_unfold.proofs.event_literals.event_walk.Opening.{opened_one, seen_later}
use Rattle.edbf_unfold.proofs.event_literals.event_walk.Stepping.{step_child, step_latch, step_none, step_same, ok_apart, many_apart}
use Rattle.event_nodes.proofs.flat_net.Places.{one_at}
use Rattle.edbf_unfold.proofs.event_literals.event_walk.walker.EventWalker.expand_latch.Goals as goal

pub class-requires : goal.class-requires
class-requires c =
    let u = c.args.self.now in
    let lent = c.circuit-circuit.result.now in
    let sound = sound_of u.circuit lent c.circuit-circuit.ensures c.keeps.ensures.sound in
    let l = driven_latch u.circuit.net sound c.args.place.1 c.args.j c.requires.latch in
    let inside = slice_get_within u.circuit.net.latches c.args.j l.0 l.1 in
    subst (λ (e : EventCircuitView). c.args.j < length e.net.latches) (sym c.circuit-circuit.ensures) inside

pub enter_latch-requires-clause-latch : goal.enter_latch-requires-clause-latch
enter_latch-requires-clause-latch c =
    let u = c.args.self.now in
    let lent = c.circuit-circuit.result.now in
    let sound = sound_of u.circuit lent c.circuit-circuit.ensures c.keeps.ensures.sound in
    let l = driven_latch u.circuit.net sound c.args.place.1 c.args.j c.requires.latch in
    let inside = slice_get_within u.circuit.net.latches c.args.j l.0 l.1 in
    subst (λ (e : EventCircuitView). c.args.j < length e.net.latches) (sym c.circuit-circuit.ensures) inside

pub returns-in_err-child-clause-step : goal.returns-in_err-child-clause-step
returns-in_err-child-clause-step c = step_same c.args.self.now c.args.events.now c.child.new.self c.args.place c.args.table.now c.in_err-child.ensures.err

pub returns-then-nodes-ge-MAX_EVENT_NODES-clause-step : goal.returns-then-nodes-ge-MAX_EVENT_NODES-clause-step
returns-then-nodes-ge-MAX_EVENT_NODES-clause-step c =
    let u = c.args.self.now in
    let free : NotPut (put_of c.frame-frame.result.put) c.args.place.1 = search rules in
    let lent = c.circuit-circuit.result.now in
    let sound = sound_of u.circuit lent c.circuit-circuit.ensures c.keeps.ensures.sound in
    let l = driven_latch u.circuit.net sound c.args.place.1 c.args.j c.requires.latch in
    let class_is : (side_of u.circuit).class l.0.out.0 ≡ c.class.result = subst (λ (e : EventCircuitView). (side_of e).class l.0.out.0 ≡ c.class.result) c.circuit-circuit.ensures
    (c.class.ensures l.0 (subst (λ (e : EventCircuitView). slice_get e.net.latches c.args.j ≡ Some l.0) (sym c.circuit-circuit.ensures) l.1)) in
    step_child u sound c.args.events.now c.child.new.self c.keeps-2.ensures.events.is_tree c.child.ensures.grows c.child.ensures.same c.args.place c.requires.seen c.args.j l.0 c.requires.latch l.1 c.frame-frame.result c.frame-frame.ensures free c.in_ok-child.child c.class.result c.in_ok-child.ensures.here class_is c.child.ensures.adds c.args.table.now

pub returns-in_err-ways-clause-step : goal.returns-in_err-ways-clause-step
returns-in_err-ways-clause-step c =
    let u = c.args.self.now in
    let free : NotPut (put_of c.frame-frame.result.put) c.args.place.1 = search rules in
    let lent = c.circuit-circuit.result.now in
    let sound = sound_of u.circuit lent c.circuit-circuit.ensures c.keeps.ensures.sound in
    let l = driven_latch u.circuit.net sound c.args.place.1 c.args.j c.requires.latch in
    let class_is : (side_of u.circuit).class l.0.out.0 ≡ c.class.result = subst (λ (e : EventCircuitView). (side_of e).class l.0.out.0 ≡ c.class.result) c.circuit-circuit.ensures
    (c.class.ensures l.0 (subst (λ (e : EventCircuitView). slice_get e.net.latches c.args.j ≡ Some l.0) (sym c.circuit-circuit.ensures) l.1)) in
    let eq : lent ≡ c.self.inside.circuit.now = c.circuit-circuit.ensures ∙ sym (ap (λ (k : EventWalkerView). k.circuit) c.self.view_is) in
    let on_lent : slice_get lent.net.latches c.args.j ≡ Some l.0 = subst (λ (e : EventCircuitView). slice_get e.net.latches c.args.j ≡ Some l.0) (sym c.circuit-circuit.ensures) l.1 in
    let entries = subst (λ (e : EventCircuitView). Adds (IsEntry e c.enter_latch.new.frames c.in_ok-child.child l.0) c.args.table.now c.enter_latch.new.table) eq (c.enter_latch.ensures.adds l.0 on_lent) in
    step_latch u sound c.args.events.now c.child.new.self c.keeps-2.ensures.events.is_tree c.child.ensures.grows c.child.ensures.same c.args.place c.requires.seen c.args.j l.0 c.requires.latch l.1 c.frame-frame.result c.frame-frame.ensures free c.in_ok-child.child c.class.result c.in_ok-child.ensures.here class_is c.child.ensures.adds _ c.self.view_is c.enter_latch.new.frames c.enter_latch.ensures.frames c.enter_latch.ensures.few_frames c.args.table.now c.enter_latch.new.table entries

pub returns-clause-step : goal.returns-clause-step
returns-clause-step c =
    let u = c.args.self.now in
    let free : NotPut (put_of c.frame-frame.result.put) c.args.place.1 = search rules in
    let lent = c.circuit-circuit.result.now in
    let sound = sound_of u.circuit lent c.circuit-circuit.ensures c.keeps.ensures.sound in
    let l = driven_latch u.circuit.net sound c.args.place.1 c.args.j c.requires.latch in
    let class_is : (side_of u.circuit).class l.0.out.0 ≡ c.class.result = subst (λ (e : EventCircuitView). (side_of e).class l.0.out.0 ≡ c.class.result) c.circuit-circuit.ensures
    (c.class.ensures l.0 (subst (λ (e : EventCircuitView). slice_get e.net.latches c.args.j ≡ Some l.0) (sym c.circuit-circuit.ensures) l.1)) in
    let eq : lent ≡ c.self.inside.circuit.now = c.circuit-circuit.ensures ∙ sym (ap (λ (k : EventWalkerView). k.circuit) c.self.view_is) in
    let on_lent : slice_get lent.net.latches c.args.j ≡ Some l.0 = subst (λ (e : EventCircuitView). slice_get e.net.latches c.args.j ≡ Some l.0) (sym c.circuit-circuit.ensures) l.1 in
    let entries = subst (λ (e : EventCircuitView). Adds (IsEntry e c.enter_latch.new.frames c.in_ok-child.child l.0) c.args.table.now c.enter_latch.new.table) eq (c.enter_latch.ensures.adds l.0 on_lent) in
    step_latch u sound c.args.events.now c.child.new.self c.keeps-2.ensures.events.is_tree c.child.ensures.grows c.child.ensures.same c.args.place c.requires.seen c.args.j l.0 c.requires.latch l.1 c.frame-frame.result c.frame-frame.ensures free c.in_ok-child.child c.class.result c.in_ok-child.ensures.here class_is c.child.ensures.adds _ c.self.view_is c.enter_latch.new.frames c.enter_latch.ensures.frames c.enter_latch.ensures.few_frames c.args.table.now c.enter_latch.new.table entries

pub returns-clause-expanded : goal.returns-clause-expanded
returns-clause-expanded c =
    let u = c.args.self.now in
    let lent = c.circuit-circuit.result.now in
    let e = c.self.inside.circuit.now in
    let view : e ≡ u.circuit = ap (λ (k : EventWalkerView). k.circuit) c.self.view_is in
    let eq : lent ≡ e = c.circuit-circuit.ensures ∙ sym view in
    let sound : IsSound e.net = subst (λ (k : EventCircuitView). IsSound k.net) eq c.keeps.ensures.sound in
    let drives : slice_get e.net.drivers c.args.place.1 ≡ Some (driver.Latch c.args.j) = subst (λ (k : EventCircuitView). slice_get k.net.drivers c.args.place.1 ≡ Some (driver.Latch c.args.j)) (sym view) c.requires.latch in
    let l = driven_latch e.net sound c.args.place.1 c.args.j drives in
    let on_lent : slice_get lent.net.latches c.args.j ≡ Some l.0 = subst (λ (k : EventCircuitView). slice_get k.net.latches c.args.j ≡ Some l.0) (sym eq) l.1 in
    let class : c.class.result ≡ (side_of e).class l.0.out.0 = sym (subst (λ (k : EventCircuitView). (side_of k).class l.0.out.0 ≡ c.class.result) eq (c.class.ensures l.0 on_lent)) in
    let child : IsChild c.child.new.self.children c.frame-frame.result.node ((side_of e).class l.0.out.0) c.in_ok-child.child = subst (λ (k : ℕ). IsChild c.child.new.self.children c.frame-frame.result.node k c.in_ok-child.child) class c.in_ok-child.ensures.here in
    let opened = opened_one _ u c.self.view_is c.args.events.now c.child.new.self c.child.ensures.grows c.child.ensures.same c.enter_latch.new.frames c.enter_latch.ensures.frames c.enter_latch.ensures.few_frames in
    let seen = seen_later u _ c.args.events.now c.child.new.self 1 c.args.place opened (children_more c.args.events.now c.child.new.self c.child.ensures.grows) c.requires.seen in
    let at = adds_at (λ (f : Frame). Unit {0}) u.frames c.enter_latch.new.frames c.args.place.0 c.frame-frame.result opened.frames c.frame-frame.ensures in
    let are = subst (λ (k : EventCircuitView). AreWays k c.enter_latch.new.frames c.enter_latch.new.table c.in_ok-child.child l.0 c.in_ok-ways.ways) eq (c.in_ok-ways.ensures.ways l.0 on_lent) in
    latch_expanded e sound c.enter_latch.new.frames c.child.new.self.children c.enter_latch.new.table c.args.place seen c.args.j l.0 drives l.1 c.in_ok-child.child c.in_ok-ways.ways c.frame-frame.result at child are

pub enter_latch-requires-clause-frames : goal.enter_latch-requires-clause-frames
enter_latch-requires-clause-frames c = subst (λ (k : EventWalkerView). length k.frames + 2 < 2 ^ 32) (sym c.self.view_is) c.requires.frames

pub returns-clause-many : goal.returns-clause-many
returns-clause-many c = λ is. ok_apart _ _ is

pub returns-clause-large : goal.returns-clause-large
returns-clause-large c = λ is. ok_apart _ _ is

pub returns-then-nodes-ge-MAX_EVENT_NODES-clause-large : goal.returns-then-nodes-ge-MAX_EVENT_NODES-clause-large
returns-then-nodes-ge-MAX_EVENT_NODES-clause-large c = λ is. many_apart is

pub returns-in-Some-clause-step : goal.returns-in-Some-clause-step
returns-in-Some-clause-step c = step_none c.args.self.now c.args.events.now c.args.place c.args.table.now

pub returns-in-Some-clause-expanded : goal.returns-in-Some-clause-expanded
returns-in-Some-clause-expanded c =
    let u = c.args.self.now in
    let sound = sound_of u.circuit c.circuit-circuit.result.now c.circuit-circuit.ensures c.keeps.ensures.sound in
    let l = driven_latch u.circuit.net sound c.args.place.1 c.args.j c.requires.latch in
    let at = c.frame-frame.ensures in
    put_expanded u.circuit sound u.frames c.args.events.now.children c.args.table.now c.args.place c.requires.seen c.args.j l.0 c.requires.latch l.1 c.stay.result c.in-Some.field-0 c.frame-frame.result at c.in-Some.ensures.here

pub frame-frame-requires : goal.frame-frame-requires
frame-frame-requires c = slice_get_within c.args.self.now.frames c.args.place.0 c.requires.seen.0 c.requires.seen.1

pub returns-in-Some-clause-many : goal.returns-in-Some-clause-many
returns-in-Some-clause-many c = λ is. ok_apart _ _ is

pub returns-in-Some-clause-large : goal.returns-in-Some-clause-large
returns-in-Some-clause-large c = λ is. ok_apart _ _ is

pub child-requires-clause-node : goal.child-requires-clause-node
child-requires-clause-node c =
    let seen = c.requires.seen in
    subst (λ (f : Frame). f.node ≤ length c.args.events.now.children) (one_at c.args.self.now.frames c.args.place.0 seen.0 c.frame-frame.result seen.1 c.frame-frame.ensures) seen.2
