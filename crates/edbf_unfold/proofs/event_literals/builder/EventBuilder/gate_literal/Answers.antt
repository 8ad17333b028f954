-- The gate's cover has a column for each fan-in, and its room is within what the gate counts.
use Rattle.std.proofs.Common.{◌≡◌, ◌∙◌, ◌*◌, ◌<◌, length, sym, ap, subst, arith, slice_get, Some, Option, inl, inr}
use Rattle.std.specs.Prelude.{◌⊎◌, IfSome}
use Rattle.std.specs.List.{All}
use Rattle.circuit_theory.proofs.Lists.{zip_length}
use Rattle.event_nodes.specs.flat_net.Signal.{Signal}
use Rattle.event_nodes.specs.flat_net.Gate.{Gate}
use Rattle.event_nodes.specs.flat_net.View.{NetView}
use Rattle.event_nodes.specs.flat_net.Sound.{IsSound}
use Rattle.event_nodes.proofs.flat_net.Places.{cover_of-is, cover_within, cover_fits}
use Rattle.event_nodes.specs.Lit.{Lit}
use Rattle.event_nodes.specs.Rules.{cover_room}
use Rattle.event_nodes.specs.View.{EventCircuitView}
use Rattle.edbf_unfold.specs.event_literals.Known.{IsMet, IsReadLit}
use Rattle.event_nodes.specs.flat_net.Weights.{gate_weight}
use Rattle.edbf_unfold.proofs.event_literals.Lits.{grown_none, zip_all, cover_within_weight, gate_lit, cover_grown}
use Rattle.edbf_unfold.proofs.event_literals.builder.EventBuilder.gate_literal.Goals as goal

pub fanin_literals-requires : goal.fanin_literals-requires
fanin_literals-requires c =
    let same : c.net-net.result.now ≡ c.args.self.now.circuit.net = c.net-net.ensures ∙ ap (λ (e : EventCircuitView). e.net) c.circuit-circuit.ensures in
    let at = ap (λ (n : NetView). slice_get n.gates c.args.j) (sym same) ∙ c.gate_of-gate.ensures in
    subst (All (λ (f : Signal). IsMet c.args.self.now.memo (c.args.step.frame, f.0) ⊎ IsMet c.args.self.now.memo (c.args.step.onward, f.0))) (sym c.as_slice.ensures)
    (subst (λ (o : Option Gate). IfSome o (λ g. All (λ f. IsMet c.args.self.now.memo (c.args.step.frame, f.0) ⊎ IsMet c.args.self.now.memo (c.args.step.onward, f.0)) g.fanins)) at c.requires.met)

pub cover-requires : goal.cover-requires
cover-requires c = cover_within c.net-net.result.now (subst IsSound (sym c.net-net.ensures) c.keeps.ensures.sound) c.args.j c.gate_of-gate.result.now c.gate_of-gate.ensures

pub cover-requires-2-clause-within : goal.cover-requires-2-clause-within
cover-requires-2-clause-within c =
    subst (All (λ (y : Lit). y.0 < 2 * length c.args.events.now.graph)) (sym c.as_slice-2.ensures.value)
    (zip_all (λ (f : Signal) (y : Lit). IsReadLit c.args.self.now.memo c.args.step.frame c.args.step.onward f.0 y) (λ (y : Lit). y.0 < 2 * length c.args.events.now.graph) (λ f y h. within f y h)
    c.as_slice.result.now c.in_ok-lits.lits.items c.in_ok-lits.ensures)
  where
    within : (f : Signal) (y : Lit) → IsReadLit c.args.self.now.memo c.args.step.frame c.args.step.onward f.0 y → y.0 < 2 * length c.args.events.now.graph
    within f y (inl h) = c.requires.within (c.args.step.frame, f.0) y h
    within f y (inr h) = c.requires.within (c.args.step.onward, f.0) y h.1

pub cover-requires-2-clause-width : goal.cover-requires-2-clause-width
cover-requires-2-clause-width c =
    let fits = cover_fits c.net-net.result.now (subst IsSound (sym c.net-net.ensures) c.keeps.ensures.sound) c.args.j c.gate_of-gate.result.now c.gate_of-gate.ensures c.cover.result.now c.cover.ensures in
    ap length c.as_slice-2.ensures.value ∙ sym (zip_length (λ (f : Signal) (y : Lit). IsReadLit c.args.self.now.memo c.args.step.frame c.args.step.onward f.0 y) c.as_slice.result.now c.in_ok-lits.lits.items c.in_ok-lits.ensures)
    ∙ ap length c.as_slice.ensures ∙ sym fits

pub cover-requires-2-clause-room : goal.cover-requires-2-clause-room
cover-requires-2-clause-room c =
    let g = c.gate_of-gate.result.now in
    let net = c.args.self.now.circuit.net in
    let same : c.net-net.result.now ≡ net = c.net-net.ensures ∙ ap (λ (e : EventCircuitView). e.net) c.circuit-circuit.ensures in
    let at : slice_get net.gates c.args.j ≡ Some g = ap (λ (n : NetView). slice_get n.gates c.args.j) (sym same) ∙ c.gate_of-gate.ensures in
    let here : slice_get net.covers g.cover ≡ Some c.cover.result.now = ap (λ (n : NetView). slice_get n.covers g.cover) (sym same) ∙ c.cover.ensures in
    let fits = cover_fits c.net-net.result.now (subst IsSound (sym c.net-net.ensures) c.keeps.ensures.sound) c.args.j g c.gate_of-gate.ensures c.cover.result.now c.cover.ensures in
    let room = cover_within_weight net.covers g c.cover.result.now (cover_of-is net.covers g c.cover.result.now here) fits in
    let weight : gate_weight net.covers (slice_get net.gates c.args.j) ≡ gate_weight net.covers (Some g) = ap (gate_weight net.covers) at in
    omega (arith, room, weight, c.requires.nodes)

pub returns-clause-here : goal.returns-clause-here
returns-clause-here c =
    let g = c.gate_of-gate.result.now in
    let net = c.args.self.now.circuit.net in
    let same : c.net-net.result.now ≡ net = c.net-net.ensures ∙ ap (λ (e : EventCircuitView). e.net) c.circuit-circuit.ensures in
    let at : slice_get net.gates c.args.j ≡ Some g = ap (λ (n : NetView). slice_get n.gates c.args.j) (sym same) ∙ c.gate_of-gate.ensures in
    let here : slice_get net.covers g.cover ≡ Some c.cover.result.now = ap (λ (n : NetView). slice_get n.covers g.cover) (sym same) ∙ c.cover.ensures in
    gate_lit c.args.self.now c.args.step.frame c.args.step.onward c.args.j c.cover-2.new.self.graph g c.in_ok-lits.lits.items c.cover-2.result at c.as_slice.result.now c.as_slice.ensures c.in_ok-lits.ensures c.cover.result.now (cover_of-is net.covers g c.cover.result.now here)
    c.as_slice-2.result.now c.as_slice-2.ensures.value c.cover-2.ensures.here c.cover-2.ensures.within

pub returns-clause-grown : goal.returns-clause-grown
returns-clause-grown c =
    let g = c.gate_of-gate.result.now in
    let net = c.args.self.now.circuit.net in
    let same : c.net-net.result.now ≡ net = c.net-net.ensures ∙ ap (λ (e : EventCircuitView). e.net) c.circuit-circuit.ensures in
    let at : slice_get net.gates c.args.j ≡ Some g = ap (λ (n : NetView). slice_get n.gates c.args.j) (sym same) ∙ c.gate_of-gate.ensures in
    let here : slice_get net.covers g.cover ≡ Some c.cover.result.now = ap (λ (n : NetView). slice_get n.covers g.cover) (sym same) ∙ c.cover.ensures in
    let fits = cover_fits c.net-net.result.now (subst IsSound (sym c.net-net.ensures) c.keeps.ensures.sound) c.args.j g c.gate_of-gate.ensures c.cover.result.now c.cover.ensures in
    let room = cover_within_weight net.covers g c.cover.result.now (cover_of-is net.covers g c.cover.result.now here) fits in
    let weight : gate_weight net.covers (slice_get net.gates c.args.j) ≡ gate_weight net.covers (Some g) = ap (gate_weight net.covers) at in
    cover_grown c.args.events.now c.cover-2.new.self (cover_room c.cover.result.now) (gate_weight net.covers (slice_get net.gates c.args.j)) c.cover-2.ensures.grows c.cover-2.ensures.same c.cover-2.ensures.few (omega (arith, room, weight))

pub returns-in_err-lits-clause-grown : goal.returns-in_err-lits-clause-grown
returns-in_err-lits-clause-grown c = grown_none c.args.events.now _
