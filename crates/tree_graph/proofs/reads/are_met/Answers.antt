use Rattle.std.proofs.Common.{◌≡◌, ◌∙◌, ℕ, List, Some, map, sym, ap, subst}
use Rattle.std.specs.List.{All}
use Rattle.std.proofs.lemmas.Option.{slice_get_within}
use Rattle.std.proofs.lemmas.List.Elements.{All-map}
use Rattle.flat_net.specs.declared.signals.Signal.{Signal}
use Rattle.flat_net.proofs.Drivers.{driven_gate, driven_latch}
use Rattle.tree_graph.specs.Walking.{IsMet, reads_by, reads_of, fanins_at}
use Rattle.tree_graph.proofs.reads.are_met.Goals as goal

pub gate_of-requires : goal.gate_of-requires
gate_of-requires c =
    let n = c.args.net.now in
    let g = driven_gate n c.keeps.ensures.sound c.args.place.1 c.in-Gate.j (c.driver.ensures ∙ ap Some c.in-Gate.is) in
    slice_get_within n.gates c.in-Gate.j g.0 g.1

pub latch_of-requires : goal.latch_of-requires
latch_of-requires c =
    let n = c.args.net.now in
    let l = driven_latch n c.keeps.ensures.sound c.args.place.1 c.in-Latch.j (c.driver.ensures ∙ ap Some c.in-Latch.is) in
    slice_get_within n.latches c.in-Latch.j l.0 l.1

pub returns-in-Gate : goal.returns-in-Gate
returns-in-Gate c = λ h.
    let n = c.args.net.now in
    let k : ℕ = c.args.place.0 in
    let f : Signal → ℕ × ℕ = λ s. (k, s.0) in
    let drives = c.driver.ensures ∙ ap Some c.in-Gate.is in
    let are : reads_of n c.args.place ≡ map f c.as_slice.result.now = ap (reads_by n k) drives ∙ ap (fanins_at k) c.gate_of.ensures ∙ ap (map f) (sym c.as_slice.ensures) in
    subst (λ (ps : List (ℕ × ℕ)). All (IsMet c.args.memo.now) ps) (sym are) (All-map (IsMet c.args.memo.now) f c.as_slice.result.now (c.all_met.ensures h))
