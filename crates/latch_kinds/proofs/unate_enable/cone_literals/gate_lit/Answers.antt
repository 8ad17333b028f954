-- The gate's cover has a column for each fan-in, and its room is within what the gate counts.
use Rattle.std.proofs.Common.{◌≡◌, ◌∙◌, ◌*◌, ◌<◌, nat_eq, length, sym, ap, subst, arith, slice_get, Some, Option}
use Rattle.std.specs.Prelude.{IfSome}
use Rattle.std.specs.List.{All}
use Rattle.indexmap.specs.IndexMap.{get}
use Rattle.circuit_theory.proofs.Lists.{zip_length}
use Rattle.flat_net.specs.declared.signals.Signal.{Signal}
use Rattle.flat_net.specs.declared.parts.Gate.{Gate}
use Rattle.flat_net.proofs.Places.{cover_of-is, cover_within, cover_fits}
use Rattle.aig.specs.declared.node.Lit.{Lit}
use Rattle.flat_net.specs.Weights.{gate_weight}
use Rattle.latch_kinds.specs.unate_enable.Building.{IsKnown}
use Rattle.latch_kinds.proofs.unate_enable.Literals.{zip_all, cover_within_weight, gate_lit_from}
use Rattle.latch_kinds.proofs.unate_enable.cone_literals.gate_lit.Goals as goal

pub fanin_lits-requires : goal.fanin_lits-requires
fanin_lits-requires c =
    subst (All (λ (f : Signal). IsKnown (get nat_eq c.args.known.now) f.0)) (sym c.as_slice.ensures)
    (subst (λ (o : Option Gate). IfSome o (λ g. All (λ f. IsKnown (get nat_eq c.args.known.now) f.0) g.fanins)) c.gate_of-gate.ensures c.requires.known)

pub cover-requires : goal.cover-requires
cover-requires c = cover_within c.args.net.now c.keeps.ensures.sound c.args.j c.gate_of-gate.result.now c.gate_of-gate.ensures

pub cover-requires-2-clause-within : goal.cover-requires-2-clause-within
cover-requires-2-clause-within c =
    subst (All (λ (y : Lit). y.0 < 2 * length c.args.aig.now)) (sym c.as_slice-2.ensures.value)
    (zip_all (λ (f : Signal) (y : Lit). get nat_eq c.args.known.now f.0 ≡ Some y) (λ (y : Lit). y.0 < 2 * length c.args.aig.now) (λ f y h. c.requires.within f.0 y h) c.as_slice.result.now c.in_ok-lits.lits.items c.in_ok-lits.ensures)

pub cover-requires-2-clause-width : goal.cover-requires-2-clause-width
cover-requires-2-clause-width c =
    let fits = cover_fits c.args.net.now c.keeps.ensures.sound c.args.j c.gate_of-gate.result.now c.gate_of-gate.ensures c.cover.result.now c.cover.ensures in
    ap length c.as_slice-2.ensures.value ∙ sym (zip_length (λ (f : Signal) (y : Lit). get nat_eq c.args.known.now f.0 ≡ Some y) c.as_slice.result.now c.in_ok-lits.lits.items c.in_ok-lits.ensures) ∙ ap length c.as_slice.ensures ∙ sym fits

pub cover-requires-2-clause-room : goal.cover-requires-2-clause-room
cover-requires-2-clause-room c =
    let g = c.gate_of-gate.result.now in
    let fits = cover_fits c.args.net.now c.keeps.ensures.sound c.args.j g c.gate_of-gate.ensures c.cover.result.now c.cover.ensures in
    let room = cover_within_weight c.args.net.now.covers g c.cover.result.now (cover_of-is c.args.net.now.covers g c.cover.result.now c.cover.ensures) fits in
    let weight : gate_weight c.args.net.now.covers (slice_get c.args.net.now.gates c.args.j) ≡ gate_weight c.args.net.now.covers (Some g) = ap (gate_weight c.args.net.now.covers) c.gate_of-gate.ensures in
    omega (arith, room, weight, c.requires.room)

pub returns : goal.returns
returns c =
    let n = c.args.net.now in
    let g = c.gate_of-gate.result.now in
    let is = cover_of-is n.covers g c.cover.result.now c.cover.ensures in
    let fits = cover_fits n c.keeps.ensures.sound c.args.j g c.gate_of-gate.ensures c.cover.result.now c.cover.ensures in
    let room = cover_within_weight n.covers g c.cover.result.now is fits in
    let weight : gate_weight n.covers (slice_get n.gates c.args.j) ≡ gate_weight n.covers (Some g) = ap (gate_weight n.covers) c.gate_of-gate.ensures in
    record {
      here = gate_lit_from n c.args.j (get nat_eq c.args.known.now) c.args.aig.now c.cover-2.new.self g c.in_ok-lits.lits.items c.in_ok-lit.lit.0 c.gate_of-gate.ensures c.as_slice.result.now c.as_slice.ensures c.in_ok-lits.ensures
          c.cover.result.now is c.as_slice-2.result.now c.as_slice-2.ensures.value c.in_ok-lit.ensures.here c.in_ok-lit.ensures.value c.in_ok-lit.ensures.within;
      grown = record { grows = c.cover-2.ensures.grows; nodes = omega (arith, c.cover-2.ensures.few, room, weight); vars = omega (arith, c.cover-2.ensures.vars) };
    }
