-- The gate's cover has a column for each fan-in, and its room is within what the gate counts.
use Rattle.std.proofs.Common.{◌≡◌, ◌∙◌, ◌*◌, ◌<◌, length, map, sym, ap, subst, arith, slice_get, Some, Option}
use Rattle.std.specs.Prelude.{IfSome}
use Rattle.std.specs.List.{All}
use Rattle.circuit_theory.proofs.Lists.{length-map}
use Rattle.flat_net.specs.declared.signals.Signal.{Signal}
use Rattle.flat_net.specs.declared.parts.Gate.{Gate}
use Rattle.flat_net.proofs.Places.{cover_of-is, cover_within, cover_fits}
use Rattle.aig.specs.declared.node.Lit.{Lit}
use Rattle.aig.proofs.Growth.{Grows-refl}
use Rattle.flat_net.specs.Weights.{gate_weight}
use Rattle.block_refine.specs.latch_blocks.Signals.{lit_at}
use Rattle.block_refine.proofs.latch_blocks.GateLits.{cover_within_weight, fanins_within, gate_lit_from}
use Rattle.block_refine.proofs.latch_blocks.gates.gate_literal.Goals as goal

pub fanin_literals-requires : goal.fanin_literals-requires
fanin_literals-requires c =
    subst (All (λ (f : Signal). f.0 < length c.args.lits.now)) (sym c.as_slice.ensures)
    (subst (λ (o : Option Gate). IfSome o (λ g. All (λ f. f.0 < length c.args.lits.now) g.fanins)) c.gate_of-gate.ensures c.requires.known)

pub cover-requires : goal.cover-requires
cover-requires c = cover_within c.args.net.now c.keeps.ensures.sound c.args.j c.gate_of-gate.result.now c.gate_of-gate.ensures

pub cover-requires-2-clause-within : goal.cover-requires-2-clause-within
cover-requires-2-clause-within c =
    let known = subst (λ (o : Option Gate). IfSome o (λ g. All (λ f. f.0 < length c.args.lits.now) g.fanins)) c.gate_of-gate.ensures c.requires.known in
    subst (All (λ (y : Lit). y.0 < 2 * length c.args.aig.now)) (sym (c.as_slice-2.ensures.value ∙ c.in_ok-fanins.ensures ∙ ap (map (λ (f : Signal). lit_at c.args.lits.now f.0)) c.as_slice.ensures))
    (fanins_within c.args.lits.now c.gate_of-gate.result.now.fanins (2 * length c.args.aig.now) known c.requires.within)

pub cover-requires-2-clause-width : goal.cover-requires-2-clause-width
cover-requires-2-clause-width c =
    let fits = cover_fits c.args.net.now c.keeps.ensures.sound c.args.j c.gate_of-gate.result.now c.gate_of-gate.ensures c.cover.result.now c.cover.ensures in
    ap length c.as_slice-2.ensures.value ∙ ap length c.in_ok-fanins.ensures ∙ length-map (λ (f : Signal). lit_at c.args.lits.now f.0) c.as_slice.result.now ∙ ap length c.as_slice.ensures ∙ sym fits

pub cover-requires-2-clause-room : goal.cover-requires-2-clause-room
cover-requires-2-clause-room c =
    let g = c.gate_of-gate.result.now in
    let fits = cover_fits c.args.net.now c.keeps.ensures.sound c.args.j g c.gate_of-gate.ensures c.cover.result.now c.cover.ensures in
    let room = cover_within_weight c.args.net.now.covers g c.cover.result.now (cover_of-is c.args.net.now.covers g c.cover.result.now c.cover.ensures) fits in
    let weight : gate_weight c.args.net.now.covers (slice_get c.args.net.now.gates c.args.j) ≡ gate_weight c.args.net.now.covers (Some g) = ap (gate_weight c.args.net.now.covers) c.gate_of-gate.ensures in
    omega (arith, room, weight, c.requires.room)

pub returns : goal.returns
returns c =
    let n = c.args.net.now in
    let g = c.gate_of-gate.result.now in
    let is = cover_of-is n.covers g c.cover.result.now c.cover.ensures in
    let fits = cover_fits n c.keeps.ensures.sound c.args.j g c.gate_of-gate.ensures c.cover.result.now c.cover.ensures in
    let room = cover_within_weight n.covers g c.cover.result.now is fits in
    let weight : gate_weight n.covers (slice_get n.gates c.args.j) ≡ gate_weight n.covers (Some g) = ap (gate_weight n.covers) c.gate_of-gate.ensures in
    record {
      here = gate_lit_from n c.args.j c.args.lits.now c.args.aig.now c.cover-2.new.self g c.in_ok-lit.lit c.gate_of-gate.ensures c.cover.result.now is c.as_slice-2.result.now
          (c.as_slice-2.ensures.value ∙ c.in_ok-fanins.ensures ∙ ap (map (λ (f : Signal). lit_at c.args.lits.now f.0)) c.as_slice.ensures) c.in_ok-lit.ensures.here c.in_ok-lit.ensures.value c.in_ok-lit.ensures.within;
      grows = c.cover-2.ensures.grows;
      few = omega (arith, c.cover-2.ensures.few, room, weight);
    }

pub returns-in_err-fanins-clause-grows : goal.returns-in_err-fanins-clause-grows
returns-in_err-fanins-clause-grows c = Grows-refl c.args.aig.now

pub returns-in_err-lit-clause-few : goal.returns-in_err-lit-clause-few
returns-in_err-lit-clause-few c =
    let n = c.args.net.now in
    let g = c.gate_of-gate.result.now in
    let is = cover_of-is n.covers g c.cover.result.now c.cover.ensures in
    let fits = cover_fits n c.keeps.ensures.sound c.args.j g c.gate_of-gate.ensures c.cover.result.now c.cover.ensures in
    let room = cover_within_weight n.covers g c.cover.result.now is fits in
    let weight : gate_weight n.covers (slice_get n.gates c.args.j) ≡ gate_weight n.covers (Some g) = ap (gate_weight n.covers) c.gate_of-gate.ensures in
    omega (arith, c.cover-2.ensures.few, room, weight)
