use Rattle.std.proofs.Common.{◌∙◌, ℕ, ◌*◌, ◌<◌, [], length, map, Option, sym, ap, subst}
use Rattle.std.specs.List.{All, Contains}
use Rattle.circuit_theory.proofs.Lists.{zip_length}
use Rattle.flat_net.specs.declared.signals.Signal.{Signal}
use Rattle.flat_net.specs.declared.parts.Gate.{Gate}
use Rattle.flat_net.proofs.Places.{cover_of-is, cover_within, cover_fits}
use Rattle.aig.specs.declared.node.Lit.{Lit}
use Rattle.tree_graph.specs.Walking.{IsMet, fanins_at}
use Rattle.tree_graph.proofs.Lists.{all_unmap, all_right}
use Rattle.tree_graph.proofs.Places.{gate_lits}
use Rattle.tree_graph.proofs.walk.make_gate.Goals as goal

pub literals-requires : goal.literals-requires
literals-requires c =
    let g : Gate = c.gate_of-gate.result.now in
    let f : Signal → ℕ × ℕ = λ s. (c.args.shift, s.0) in
    let met : All (IsMet c.args.memo.now) (map f g.fanins) = subst (λ (o : Option Gate). All (IsMet c.args.memo.now) (fanins_at c.args.shift o)) c.gate_of-gate.ensures c.requires.met in
    subst (All (λ (s : Signal). IsMet c.args.memo.now (c.args.shift, s.0))) (sym c.as_slice.ensures) (all_unmap (IsMet c.args.memo.now) f g.fanins met)

pub cover-requires : goal.cover-requires
cover-requires c = cover_within c.args.side.now.net.now c.keeps.ensures.sound c.args.j c.gate_of-gate.result.now c.gate_of-gate.ensures

pub make_cover-requires-clause-within : goal.make_cover-requires-clause-within
make_cover-requires-clause-within c =
    subst (All (λ (y : Lit). y.0 < 2 * length c.args.aig.now)) (sym c.as_slice-2.ensures.value)
    (all_right (λ (f : Signal) (y : Lit). Contains c.args.memo.now ((c.args.shift, f.0), y)) (λ (y : Lit). y.0 < 2 * length c.args.aig.now) (λ f y h. c.requires.within (c.args.shift, f.0) y h)
    c.as_slice.result.now c.in_ok-lits.lits.items c.in_ok-lits.ensures)

pub make_cover-requires-clause-width : goal.make_cover-requires-clause-width
make_cover-requires-clause-width c =
    let fits = cover_fits c.args.side.now.net.now c.keeps.ensures.sound c.args.j c.gate_of-gate.result.now c.gate_of-gate.ensures c.cover.result.now c.cover.ensures in
    ap length c.as_slice-2.ensures.value ∙ sym (zip_length (λ (f : Signal) (y : Lit). Contains c.args.memo.now ((c.args.shift, f.0), y)) c.as_slice.result.now c.in_ok-lits.lits.items c.in_ok-lits.ensures)
    ∙ ap length c.as_slice.ensures ∙ sym fits

pub returns-clause-made : goal.returns-clause-made
returns-clause-made c =
    let n = c.args.side.now.net.now in
    let g : Gate = c.gate_of-gate.result.now in
    gate_lits n c.args.side.now.order.now c.keeps.ensures.sound [] c.args.shift c.args.j c.args.aig.now c.make_cover.new.aig c.args.memo.now g c.as_slice.result.now c.in_ok-lits.lits.items c.as_slice-2.result.now c.cover.result.now c.make_cover.result c.gate_of-gate.ensures
    c.as_slice.ensures c.in_ok-lits.ensures c.as_slice-2.ensures.value (cover_of-is n.covers g c.cover.result.now c.cover.ensures) c.make_cover.ensures.made
