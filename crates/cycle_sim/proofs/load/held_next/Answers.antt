use Rattle.std.proofs.Common.{◌≡◌, ◌<◌, ◌↔◌, ℕ, suc, true, false, List, Some, slice_get, length, get_or, refl, subst, sym, ap, arith, ◌∙◌}
use Rattle.std.proofs.lemmas.Option.{slice_get_within, slice_get_read}
use Rattle.circuit_theory.specs.Run.{Marked}
use Rattle.flat_net.specs.declared.parts.LatchAt.{LatchAt}
use Rattle.flat_net.specs.View.{circuit_of}
use Rattle.flat_net.proofs.Places.{one_at}
use Rattle.signal_graph.specs.inner_cone.latch_cone.Cones.{IsMarkedBy}
use Rattle.std.specs.List.{list_all}
use Rattle.std.specs.Prelude.{All}
use Rattle.flat_net.specs.declared.signals.Signal.{Signal}
use Rattle.flat_net.proofs.Nets.{some_at}
use Rattle.signal_graph.specs.inner_cone.Gates.{AreInnerGates}
use Rattle.cycle_sim.proofs.Marks.{sides_within}
use Rattle.cycle_sim.proofs.Turned.{held_mark, rest_marked, mark_of}
use Rattle.cycle_sim.proofs.load.held_next.Goals as goal

pub bounds-marks-own : goal.bounds-marks-own
bounds-marks-own c =
    let l : c.args.latch < length c.latches.result.now = omega (arith, c.requires.latch, ap length c.latches.ensures) in
    let at = slice_get_read c.latches.result.now (length c.latches.result.now) c.args.latch c.index-latches-latch.result refl l c.index-latches-latch.is in
    let here = subst (λ (z : List LatchAt). slice_get z c.args.latch ≡ Some c.index-latches-latch.result) c.latches.ensures at in
    let m = slice_get_within c.args.net.now.drivers c.index-latches-latch.result.out.0 _ (c.keeps.ensures.sound.latches c.args.latch c.index-latches-latch.result here).owner in
    omega (arith, m, c.requires.marks)

pub are_marked-rest-requires : goal.are_marked-rest-requires
are_marked-rest-requires c =
    let inside : c.args.latch < length c.latches.result.now = omega (arith, c.requires.latch, ap length c.latches.ensures) in
    let at = slice_get_read c.latches.result.now (length c.latches.result.now) c.args.latch c.index-latches-latch.result refl inside c.index-latches-latch.is in
    let here : slice_get c.args.net.now.latches c.args.latch ≡ Some c.index-latches-latch.result = subst (λ (z : List LatchAt). slice_get z c.args.latch ≡ Some c.index-latches-latch.result) c.latches.ensures at in
    subst (λ (signals : List Signal). All (λ (f : Signal). f.0 < length c.args.marks.now) signals) (sym c.as_slice.ensures)
    (sides_within c.args.net.now c.index-latches-latch.result c.args.cone.now.sides (c.requires.sides c.index-latches-latch.result here) (length c.args.marks.now) c.requires.marks)

pub loads_where-loading-requires-clause-places : goal.loads_where-loading-requires-clause-places
loads_where-loading-requires-clause-places c = λ k j at.
    let l = some_at c.args.net.now.latches c.args.latch c.requires.latch in
    (c.requires.gates l.0 l.1).within k j (subst (λ (gates : List ℕ). slice_get gates k ≡ Some j) c.as_slice-2.ensures at)

pub loads_where-loading-requires-clause-gates : goal.loads_where-loading-requires-clause-gates
loads_where-loading-requires-clause-gates c = λ l at. subst (AreInnerGates c.args.net.now l) (sym c.as_slice-2.ensures) (c.requires.gates l at)

pub returns-clause-mark : goal.returns-clause-mark
returns-clause-mark c = λ bits run t l h b meets have are.
    let inside : c.args.latch < length c.latches.result.now = omega (arith, c.requires.latch, ap length c.latches.ensures) in
    let at = slice_get_read c.latches.result.now (length c.latches.result.now) c.args.latch c.index-latches-latch.result refl inside c.index-latches-latch.is in
    let here : slice_get c.args.net.now.latches c.args.latch ≡ Some c.index-latches-latch.result = subst (λ (z : List LatchAt). slice_get z c.args.latch ≡ Some c.index-latches-latch.result) c.latches.ensures at in
    let own = slice_get_within c.args.net.now.drivers c.index-latches-latch.result.out.0 _ (c.keeps.ensures.sound.latches c.args.latch c.index-latches-latch.result here).owner in
    let same : c.index-latches-latch.result ≡ l = one_at c.args.net.now.latches c.args.latch c.index-latches-latch.result l here h in
    subst (λ (z : LatchAt). (c.is_held.result ≡ true) ↔ Marked (circuit_of c.args.net.now) (IsMarkedBy c.args.net.now.latches bits) run (suc t) z.out.0) same
    (subst (λ z. (z ≡ true) ↔ Marked (circuit_of c.args.net.now) (IsMarkedBy c.args.net.now.latches bits) run (suc t) c.index-latches-latch.result.out.0) (sym c.is_held.ensures)
    (held_mark c.args.net.now c.keeps.ensures.sound (IsMarkedBy c.args.net.now.latches bits) run t c.args.latch c.index-latches-latch.result here
    (record { position = c.args.latch; latch = c.index-latches-latch.result; here = here; bit = b; out = refl }) c.are_marked-rest.result _ c.loads_where-loading.result
    (rest_marked c.args.net.now c.keeps.ensures.sound bits run t c.args.marks.now are c.index-latches-latch.result c.args.cone.now.sides (c.requires.sides c.index-latches-latch.result here) c.are_marked-rest.result
    (c.are_marked-rest.ensures ∙ ap (list_all (λ (f : Signal). get_or c.args.marks.now f.0 false)) c.as_slice.ensures))
    (mark_of c.args.net.now c.keeps.ensures.sound bits run t c.args.marks.now are c.index-latches-latch.result.out.0 false own)
    (λ a. c.loads_where-loading.ensures.loads (c.is_asked.ensures ∙ a) (run t) c.index-latches-latch.result meets have here)))
