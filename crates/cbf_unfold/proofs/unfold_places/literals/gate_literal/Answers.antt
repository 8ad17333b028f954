-- The gate's cover has a column for each fan-in, and its room is within what the gate counts.
use Rattle.std.proofs.Common.{◌≡◌, ◌∙◌, ◌*◌, ◌<◌, length, sym, ap, subst, arith, slice_get, Some, Option}
use Rattle.std.specs.Prelude.{IfSome}
use Rattle.std.specs.List.{All, Contains}
use Rattle.circuit_theory.proofs.Lists.{zip_length}
use Rattle.flat_net.specs.declared.signals.Signal.{Signal}
use Rattle.flat_net.specs.declared.parts.Gate.{Gate}
use Rattle.flat_net.proofs.Places.{cover_of-is, cover_within, cover_fits}
use Rattle.aig.specs.declared.node.Lit.{Lit}
use Rattle.flat_net.specs.Weights.{gate_weight}
use Rattle.cbf_unfold.specs.unfold_places.Reach.{IsMet}
use Rattle.cbf_unfold.proofs.unfold_places.Growing.{zip_all, cover_within_weight}
use Rattle.cbf_unfold.proofs.unfold_places.PlaceLits.{gate_lit_from}
use Rattle.cbf_unfold.proofs.unfold_places.literals.gate_literal.Goals as goal

pub fanin_literals-requires : goal.fanin_literals-requires
fanin_literals-requires c =
    let at = c.gate_of-gate.ensures in
    subst (All (λ (f : Signal). IsMet c.args.memo.now (c.args.cycle, f.0))) (sym c.as_slice.ensures)
    (subst (λ (o : Option Gate). IfSome o (λ g. All (λ f. IsMet c.args.memo.now (c.args.cycle, f.0)) g.fanins)) at c.requires.met)

pub cover-requires : goal.cover-requires
cover-requires c = cover_within c.args.net.now c.keeps.ensures.sound c.args.j c.gate_of-gate.result.now c.gate_of-gate.ensures

pub cover-requires-2-clause-within : goal.cover-requires-2-clause-within
cover-requires-2-clause-within c =
    subst (All (λ (y : Lit). y.0 < 2 * length c.args.aig.now)) (sym c.as_slice-2.ensures.value)
    (zip_all (λ (f : Signal) (y : Lit). Contains c.args.memo.now ((c.args.cycle, f.0), y)) (λ (y : Lit). y.0 < 2 * length c.args.aig.now) (λ f y h. c.requires.within (c.args.cycle, f.0) y h)
    c.as_slice.result.now c.in_ok-lits.lits.items c.in_ok-lits.ensures)

pub cover-requires-2-clause-width : goal.cover-requires-2-clause-width
cover-requires-2-clause-width c =
    let fits = cover_fits c.args.net.now c.keeps.ensures.sound c.args.j c.gate_of-gate.result.now c.gate_of-gate.ensures c.cover.result.now c.cover.ensures in
    ap length c.as_slice-2.ensures.value ∙ sym (zip_length (λ (f : Signal) (y : Lit). Contains c.args.memo.now ((c.args.cycle, f.0), y)) c.as_slice.result.now c.in_ok-lits.lits.items c.in_ok-lits.ensures)
    ∙ ap length c.as_slice.ensures ∙ sym fits

pub cover-requires-2-clause-room : goal.cover-requires-2-clause-room
cover-requires-2-clause-room c =
    let g = c.gate_of-gate.result.now in
    let net = c.args.net.now in
    let at : slice_get net.gates c.args.j ≡ Some g = c.gate_of-gate.ensures in
    let here : slice_get net.covers g.cover ≡ Some c.cover.result.now = c.cover.ensures in
    let fits = cover_fits c.args.net.now c.keeps.ensures.sound c.args.j g c.gate_of-gate.ensures c.cover.result.now c.cover.ensures in
    let room = cover_within_weight net.covers g c.cover.result.now (cover_of-is net.covers g c.cover.result.now here) fits in
    let weight : gate_weight net.covers (slice_get net.gates c.args.j) ≡ gate_weight net.covers (Some g) = ap (gate_weight net.covers) at in
    omega (arith, room, weight, c.requires.nodes)

pub returns-clause-here : goal.returns-clause-here
returns-clause-here c =
    let g = c.gate_of-gate.result.now in
    let net = c.args.net.now in
    let at : slice_get net.gates c.args.j ≡ Some g = c.gate_of-gate.ensures in
    let here : slice_get net.covers g.cover ≡ Some c.cover.result.now = c.cover.ensures in
    gate_lit_from c.args.net.now c.args.memo.now c.args.cycle c.args.j c.cover-2.new.self g c.in_ok-lits.lits.items c.cover-2.result at c.as_slice.result.now c.as_slice.ensures c.in_ok-lits.ensures c.cover.result.now (cover_of-is net.covers g c.cover.result.now here)
    c.as_slice-2.result.now c.as_slice-2.ensures.value c.cover-2.ensures.here c.cover-2.ensures.within

pub returns-clause-few : goal.returns-clause-few
returns-clause-few c =
    let g = c.gate_of-gate.result.now in
    let net = c.args.net.now in
    let at : slice_get net.gates c.args.j ≡ Some g = c.gate_of-gate.ensures in
    let here : slice_get net.covers g.cover ≡ Some c.cover.result.now = c.cover.ensures in
    let fits = cover_fits c.args.net.now c.keeps.ensures.sound c.args.j g c.gate_of-gate.ensures c.cover.result.now c.cover.ensures in
    let room = cover_within_weight net.covers g c.cover.result.now (cover_of-is net.covers g c.cover.result.now here) fits in
    let weight : gate_weight net.covers (slice_get net.gates c.args.j) ≡ gate_weight net.covers (Some g) = ap (gate_weight net.covers) at in
    omega (arith, room, weight, c.cover-2.ensures.few)
