-- The class of the open latch is 0 or isn't.
use Rattle.std.proofs.Common.{◌≡◌, ◌∙◌, ◌<◌, length, slice_get, Some, sym, ap, subst}
use Rattle.std.proofs.lemmas.Bool.{false≢true}
use Rattle.std.proofs.lemmas.Bool.Decides.{Decides-eqb}
use Rattle.std.proofs.lemmas.Option.{slice_get_within}
use Rattle.circuit_theory.proofs.Inputs.{test_same}
use Rattle.event_nodes.specs.View.{EventCircuitView, side_of}
use Rattle.event_nodes.proofs.flat_net.Drivers.{driven_latch}
use Rattle.edbf_unfold.proofs.event_literals.event_walk.Lent.{sound_of}
use Rattle.edbf_unfold.proofs.unfolder.EventUnfolder.is_always.Goals as goal

pub class-requires : goal.class-requires
class-requires c =
    let u = c.args.self.now in
    let sound = sound_of u.circuit c.circuit-circuit.result.now c.circuit-circuit.ensures c.keeps.ensures.sound in
    let l = driven_latch u.circuit.net sound c.args.place.1 c.in-Some.j c.in-Some.ensures.here.0 in
    subst (λ (e : EventCircuitView). c.in-Some.j < length e.net.latches) (sym c.circuit-circuit.ensures) (slice_get_within u.circuit.net.latches c.in-Some.j l.0 l.1)

pub returns-in-Some-clause-yes : goal.returns-in-Some-clause-yes
returns-in-Some-clause-yes c = λ is open_there.
    let u = c.args.self.now in
    let sound = sound_of u.circuit c.circuit-circuit.result.now c.circuit-circuit.ensures c.keeps.ensures.sound in
    let l = driven_latch u.circuit.net sound c.args.place.1 c.in-Some.j c.in-Some.ensures.here.0 in
    let own : (side_of u.circuit).class c.args.place.1 ≡ c.class.result = ap (side_of u.circuit).class (sym l.2) ∙ subst (λ (e : EventCircuitView). (side_of e).class l.0.out.0 ≡ c.class.result) c.circuit-circuit.ensures
    (c.class.ensures l.0 (subst (λ (e : EventCircuitView). slice_get e.net.latches c.in-Some.j ≡ Some l.0) (sym c.circuit-circuit.ensures) l.1)) in
    own ∙ test_same c.class.result 0 is

pub returns-in-Some-clause-no : goal.returns-in-Some-clause-no
returns-in-Some-clause-no c = λ is.
    let u = c.args.self.now in
    let sound = sound_of u.circuit c.circuit-circuit.result.now c.circuit-circuit.ensures c.keeps.ensures.sound in
    let l = driven_latch u.circuit.net sound c.args.place.1 c.in-Some.j c.in-Some.ensures.here.0 in
    let own : (side_of u.circuit).class c.args.place.1 ≡ c.class.result = ap (side_of u.circuit).class (sym l.2) ∙ subst (λ (e : EventCircuitView). (side_of e).class l.0.out.0 ≡ c.class.result) c.circuit-circuit.ensures
    (c.class.ensures l.0 (subst (λ (e : EventCircuitView). slice_get e.net.latches c.in-Some.j ≡ Some l.0) (sym c.circuit-circuit.ensures) l.1)) in
    (c.in-Some.ensures.here.1, λ zero_is. false≢true (sym is ∙ (Decides-eqb c.class.result 0).1 (sym own ∙ zero_is)))
