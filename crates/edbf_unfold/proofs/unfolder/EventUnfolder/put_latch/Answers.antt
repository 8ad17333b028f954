-- A latch that is put changes nothing, and an enabled one that isn't brings its enable, made of its two functions.
use Rattle.std.proofs.Common.{◌≡◌, ◌∙◌, ◌<◌, length, slice_get, Some, refl, sym, ap, subst, inl, inr, rules}
use Rattle.std.proofs.lemmas.Option.{slice_get_within}
use Rattle.edbf_unfold.specs.event_literals.View.{NetView}
use Rattle.event_nodes.specs.View.{EventCircuitView, Enabled}
use Rattle.event_nodes.proofs.flat_net.Drivers.{driven_latch, latch_out, latch_equation_stands}
use Rattle.circuit_theory.specs.Frame.{NotPut}
use Rattle.edbf_unfold.specs.event_literals.event_walk.Ready.{put_of}
use Rattle.edbf_unfold.specs.declared.event_literals.event_walk.frames.Step.{Step}
use Rattle.edbf_unfold.proofs.Caring.{put_not_held, own_enable, low_met, high_met}
use Rattle.edbf_unfold.proofs.event_literals.Going.{are_known_later}
use Rattle.edbf_unfold.proofs.event_literals.event_walk.Lent.{sound_of, latch_of_lent}
use Rattle.edbf_unfold.proofs.event_literals.Lits.{grown_none}
use Rattle.edbf_unfold.proofs.unfolder.EventUnfolder.put_latch.Goals as goal

pub is_enabled-requires : goal.is_enabled-requires
is_enabled-requires c =
    let u = c.args.self.now in
    let lent = c.circuit-circuit.result.now in
    let sound = sound_of u.circuit lent c.circuit-circuit.ensures c.keeps.ensures.sound in
    let l = driven_latch u.circuit.net sound c.args.place.1 c.args.j c.requires.latch in
    subst (λ (e : EventCircuitView). c.args.j < length e.net.latches) (sym c.circuit-circuit.ensures) (slice_get_within u.circuit.net.latches c.args.j l.0 l.1)

pub latch_of-requires : goal.latch_of-requires
latch_of-requires c =
    let u = c.args.self.now in
    let lent = c.circuit-circuit.result.now in
    let sound = sound_of u.circuit lent c.circuit-circuit.ensures c.keeps.ensures.sound in
    let l = driven_latch u.circuit.net sound c.args.place.1 c.args.j c.requires.latch in
    subst (λ (n : NetView). c.args.j < length n.latches) (sym (c.net.ensures ∙ ap (λ (e : EventCircuitView). e.net) c.circuit-circuit.ensures)) (slice_get_within u.circuit.net.latches c.args.j l.0 l.1)

pub enable_by-requires-clause-within : goal.enable_by-requires-clause-within
enable_by-requires-clause-within c = λ p x h. (c.requires.known p x h).3.within

pub enable_by-requires-clause-low : goal.enable_by-requires-clause-low
enable_by-requires-clause-low c =
    let u = c.args.self.now in
    let free : NotPut (put_of c.frame-frame.result.put) c.args.place.1 = search rules in
    let lent = c.circuit-circuit.result.now in
    let sound = sound_of u.circuit lent c.circuit-circuit.ensures c.keeps.ensures.sound in
    let l = driven_latch u.circuit.net sound c.args.place.1 c.args.j c.requires.latch in
    let m = c.latch_of.result.now in
    let on_m : slice_get u.circuit.net.latches c.args.j ≡ Some m = latch_of_lent u.circuit lent c.circuit-circuit.ensures c.net.result.now c.net.ensures c.args.j m c.latch_of.ensures.there in
    let latch = latch_equation_stands u.circuit.net sound c.args.place.1 c.args.j c.requires.latch m on_m in
    let out : m.out.0 ≡ c.args.place.1 = latch_out u.circuit.net sound c.args.place.1 c.args.j c.requires.latch m on_m in
    let enabled : Enabled u.circuit c.args.place.1 = subst (Enabled u.circuit) out (subst (λ (e : EventCircuitView). Enabled e m.out.0) c.circuit-circuit.ensures
    (c.is_enabled.ensures.yes m (subst (λ (e : EventCircuitView). slice_get e.net.latches c.args.j ≡ Some m) (sym c.circuit-circuit.ensures) on_m) c.if-is_enabled.true)) in
    let step : Step = record { rank = 0; signal = c.args.place.1; frame = c.args.place.0; onward = c.args.ways.onward; high = c.args.ways.high } in
    low_met u.circuit u.frames c.args.events.now.children u.memo step c.requires.ready c.frame-frame.result c.frame-frame.ensures free m latch

pub enable_by-requires-clause-high : goal.enable_by-requires-clause-high
enable_by-requires-clause-high c =
    let u = c.args.self.now in
    let free : NotPut (put_of c.frame-frame.result.put) c.args.place.1 = search rules in
    let lent = c.circuit-circuit.result.now in
    let sound = sound_of u.circuit lent c.circuit-circuit.ensures c.keeps.ensures.sound in
    let l = driven_latch u.circuit.net sound c.args.place.1 c.args.j c.requires.latch in
    let m = c.latch_of.result.now in
    let on_m : slice_get u.circuit.net.latches c.args.j ≡ Some m = latch_of_lent u.circuit lent c.circuit-circuit.ensures c.net.result.now c.net.ensures c.args.j m c.latch_of.ensures.there in
    let latch = latch_equation_stands u.circuit.net sound c.args.place.1 c.args.j c.requires.latch m on_m in
    let out : m.out.0 ≡ c.args.place.1 = latch_out u.circuit.net sound c.args.place.1 c.args.j c.requires.latch m on_m in
    let enabled : Enabled u.circuit c.args.place.1 = subst (Enabled u.circuit) out (subst (λ (e : EventCircuitView). Enabled e m.out.0) c.circuit-circuit.ensures
    (c.is_enabled.ensures.yes m (subst (λ (e : EventCircuitView). slice_get e.net.latches c.args.j ≡ Some m) (sym c.circuit-circuit.ensures) on_m) c.if-is_enabled.true)) in
    let step : Step = record { rank = 0; signal = c.args.place.1; frame = c.args.place.0; onward = c.args.ways.onward; high = c.args.ways.high } in
    high_met u.circuit u.frames c.args.events.now.children u.memo step c.requires.ready c.frame-frame.result c.frame-frame.ensures free m latch enabled

pub returns-in_ok-push-clause-here : goal.returns-in_ok-push-clause-here
returns-in_ok-push-clause-here c =
    let u = c.args.self.now in
    let free : NotPut (put_of c.frame-frame.result.put) c.args.place.1 = search rules in
    let lent = c.circuit-circuit.result.now in
    let sound = sound_of u.circuit lent c.circuit-circuit.ensures c.keeps.ensures.sound in
    let l = driven_latch u.circuit.net sound c.args.place.1 c.args.j c.requires.latch in
    let m = c.latch_of.result.now in
    let on_m : slice_get u.circuit.net.latches c.args.j ≡ Some m = latch_of_lent u.circuit lent c.circuit-circuit.ensures c.net.result.now c.net.ensures c.args.j m c.latch_of.ensures.there in
    let latch = latch_equation_stands u.circuit.net sound c.args.place.1 c.args.j c.requires.latch m on_m in
    let out : m.out.0 ≡ c.args.place.1 = latch_out u.circuit.net sound c.args.place.1 c.args.j c.requires.latch m on_m in
    let enabled : Enabled u.circuit c.args.place.1 = subst (Enabled u.circuit) out (subst (λ (e : EventCircuitView). Enabled e m.out.0) c.circuit-circuit.ensures
    (c.is_enabled.ensures.yes m (subst (λ (e : EventCircuitView). slice_get e.net.latches c.args.j ≡ Some m) (sym c.circuit-circuit.ensures) on_m) c.if-is_enabled.true)) in
    let step : Step = record { rank = 0; signal = c.args.place.1; frame = c.args.place.0; onward = c.args.ways.onward; high = c.args.ways.high } in
    inr (
      c.in_ok-enable.enable.0,
      own_enable u.circuit c.args.events.now c.enable_by.new.events c.keeps-then-is_enabled.ensures.events c.enable_by.ensures.grown.children u.frames u.memo
          (are_known_later u.circuit c.args.events.now c.enable_by.new.events u.frames u.memo c.keeps-2.ensures.events c.enable_by.ensures.grown.grows c.requires.known) step c.requires.ready c.frame-frame.result c.frame-frame.ensures free c.args.j m on_m out latch enabled
          c.in_ok-enable.enable.0 c.in_ok-enable.ensures.here,
      c.in_ok-push.ensures.items,
    )

pub returns-else-is_enabled-clause-here : goal.returns-else-is_enabled-clause-here
returns-else-is_enabled-clause-here c =
    let u = c.args.self.now in
    let lent = c.circuit-circuit.result.now in
    let sound = sound_of u.circuit lent c.circuit-circuit.ensures c.keeps.ensures.sound in
    let l = driven_latch u.circuit.net sound c.args.place.1 c.args.j c.requires.latch in
    inl (
      λ held. c.is_enabled.ensures.no l.0 (subst (λ (e : EventCircuitView). slice_get e.net.latches c.args.j ≡ Some l.0) (sym c.circuit-circuit.ensures) l.1) c.if-is_enabled.false
          (subst (λ (e : EventCircuitView). Enabled e l.0.out.0) (sym c.circuit-circuit.ensures) (subst (Enabled u.circuit) (sym l.2) held.enabled)),
      refl,
    )

pub returns-in-Some-clause-here : goal.returns-in-Some-clause-here
returns-in-Some-clause-here c =
    inl (put_not_held c.args.self.now.circuit c.args.self.now.frames c.args.place c.frame-frame.result c.frame-frame.ensures c.in-Some.field-0 c.in-Some.ensures.here, refl)

pub frame-frame-requires : goal.frame-frame-requires
frame-frame-requires c = slice_get_within c.args.self.now.frames c.args.place.0 c.requires.ready.frame c.requires.ready.at

pub returns-else-is_enabled-clause-grown : goal.returns-else-is_enabled-clause-grown
returns-else-is_enabled-clause-grown c = grown_none c.args.events.now 1

pub returns-in-Some-clause-grown : goal.returns-in-Some-clause-grown
returns-in-Some-clause-grown c = grown_none c.args.events.now 1
