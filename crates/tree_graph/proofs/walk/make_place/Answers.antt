use Rattle.std.proofs.Common.{◌∙◌, ℕ, ◌+◌, ◌<◌, List, [], ◌∷◌, length, get_or, slice_get, Some, sym, ap, subst, arith}
use Rattle.std.specs.List.{All}
use Rattle.std.proofs.lemmas.Option.{slice_get_within, slice_get-get_or}
use Rattle.std.proofs.lemmas.Result.{IfOk-weaker}
use Rattle.circuit_theory.specs.Tree.{Tree, Leaf}
use Rattle.flat_net.specs.declared.parts.LatchAt.{LatchAt}
use Rattle.flat_net.specs.declared.parts.Driver.TheVariants as driver
use Rattle.flat_net.specs.Sound.{IsSound}
use Rattle.flat_net.proofs.Drivers.{driven_gate, driven_latch}
use Rattle.tree_graph.specs.Making.{Makes}
use Rattle.tree_graph.specs.Rooted.{IsTreeAt}
use Rattle.tree_graph.specs.Walking.{IsMet, MakesGate, reads_by, taken_at}
use Rattle.tree_graph.proofs.Places.{input_made, gate_made, latch_made}
use Rattle.tree_graph.proofs.walk.make_place.Goals as goal

pub bounds-as_slice-i : goal.bounds-as_slice-i
bounds-as_slice-i c =
    let n = c.args.side.now.net.now in
    let port = c.keeps.ensures.sound.drivers c.args.place.1 (driver.Input c.in-Input.i) (c.driver.ensures ∙ ap Some c.in-Input.is) in
    omega (arith, slice_get_within n.inputs c.in-Input.i port.0 port.1, c.requires.each, ap length c.as_slice.ensures)

pub make_gate-requires-clause-gate : goal.make_gate-requires-clause-gate
make_gate-requires-clause-gate c =
    let n = c.args.side.now.net.now in
    let g = driven_gate n c.keeps.ensures.sound c.args.place.1 c.in-Gate.j (c.driver.ensures ∙ ap Some c.in-Gate.is) in
    slice_get_within n.gates c.in-Gate.j g.0 g.1

pub make_gate-requires-clause-met : goal.make_gate-requires-clause-met
make_gate-requires-clause-met c =
    let n = c.args.side.now.net.now in
    subst (λ (ps : List (ℕ × ℕ)). All (IsMet c.args.memo.now) ps) (ap (reads_by n c.args.place.0) (c.driver.ensures ∙ ap Some c.in-Gate.is)) c.requires.met

pub make_gate-requires-clause-within : goal.make_gate-requires-clause-within
make_gate-requires-clause-within c = λ p x h. (c.requires.known p x h).within

pub latch_of-requires : goal.latch_of-requires
latch_of-requires c =
    let n = c.args.side.now.net.now in
    let l = driven_latch n c.keeps.ensures.sound c.args.place.1 c.in-Latch.j (c.driver.ensures ∙ ap Some c.in-Latch.is) in
    slice_get_within n.latches c.in-Latch.j l.0 l.1

pub met-requires : goal.met-requires
met-requires c =
    let n = c.args.side.now.net.now in
    let k : ℕ = c.args.place.0 in
    let l : LatchAt = c.latch_of.result.now in
    let met : All (IsMet c.args.memo.now) ((k + 1, l.next.0) ∷ []) =
    subst (λ (ps : List (ℕ × ℕ)). All (IsMet c.args.memo.now) ps) (ap (reads_by n k) (c.driver.ensures ∙ ap Some c.in-Latch.is) ∙ ap (taken_at k) c.latch_of.ensures.there) c.requires.met in
    met 0 (0, 0) (omega arith)

pub returns-in-Input-clause-made : goal.returns-in-Input-clause-made
returns-in-Input-clause-made c =
    let s = c.args.side.now in
    let n = s.net.now in
    let sound : IsSound n = c.keeps.ensures.sound in
    let i : ℕ = c.in-Input.i in
    let drives = c.driver.ensures ∙ ap Some c.in-Input.is in
    let port = sound.drivers c.args.place.1 (driver.Input i) drives in
    let inside : i < length c.as_slice.result.now = omega (arith, slice_get_within n.inputs i port.0 port.1, c.requires.each, ap length c.as_slice.ensures) in
    let number : ℕ = get_or c.as_slice.result.now i 0 in
    let at = ap (λ (l : List ℕ). slice_get l i) (sym c.as_slice.ensures) ∙ slice_get-get_or c.as_slice.result.now i 0 inside in
    IfOk-weaker c.make_input.result (λ x. Makes c.args.places.now c.args.aig.now (Leaf number c.args.place.0) c.make_input.new.aig x.0)
    (λ x. (t : Tree ℕ) → IsTreeAt n s.order.now c.args.place t → Makes c.args.places.now c.args.aig.now t c.make_input.new.aig x.0)
    (λ x made t is. input_made n s.order.now sound c.args.places.now c.args.place.1 c.args.place.0 i number x.0 c.args.aig.now c.make_input.new.aig drives at made t is) c.make_input.ensures.made

pub returns-in-Gate-clause-made : goal.returns-in-Gate-clause-made
returns-in-Gate-clause-made c =
    let s = c.args.side.now in
    let n = s.net.now in
    let drives = c.driver.ensures ∙ ap Some c.in-Gate.is in
    IfOk-weaker c.make_gate.result (λ x. MakesGate n c.args.memo.now c.args.place.0 c.in-Gate.j c.args.aig.now c.make_gate.new.aig x.0)
    (λ x. (t : Tree ℕ) → IsTreeAt n s.order.now c.args.place t → Makes c.args.places.now c.args.aig.now t c.make_gate.new.aig x.0)
    (λ x made t is. gate_made n s.order.now c.keeps.ensures.sound c.args.places.now c.args.place.1 c.args.place.0 c.in-Gate.j x.0 c.args.aig.now c.make_gate.new.aig c.args.memo.now drives c.requires.known made t is) c.make_gate.ensures.made

pub returns-in-Latch-clause-made : goal.returns-in-Latch-clause-made
returns-in-Latch-clause-made c = λ t is.
    let s = c.args.side.now in
    let n = s.net.now in
    let l : LatchAt = c.latch_of.result.now in
    let drives = c.driver.ensures ∙ ap Some c.in-Latch.is in
    latch_made n s.order.now c.keeps.ensures.sound c.args.places.now c.args.place.1 c.args.place.0 c.in-Latch.j c.met.result.0 l c.args.aig.now drives c.latch_of.ensures.there (c.requires.known (c.args.place.0 + 1, l.next.0) c.met.result c.met.ensures) t is

pub returns-in-Latch-clause-within : goal.returns-in-Latch-clause-within
returns-in-Latch-clause-within c = (c.requires.known (c.args.place.0 + 1, c.latch_of.result.now.next.0) c.met.result c.met.ensures).within
