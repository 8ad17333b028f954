-- The latch at the place.
use Rattle.std.proofs.Common.{◌≡◌, ◌<◌, List, Some, slice_get, length, refl, subst, ap, arith}
use Rattle.std.proofs.lemmas.Option.{slice_get_read}
use Rattle.signal_graph.proofs.inner_cone.latch_cone.flat_net.Places.{one_at}
use Rattle.signal_graph.specs.inner_cone.latch_cone.flat_net.LatchAt.{LatchAt}
use Rattle.signal_graph.specs.inner_cone.Sides.{AreSides}
use Rattle.signal_graph.specs.inner_cone.Gates.{AreInnerGates}
use Rattle.signal_graph.proofs.inner_cone.parts.inner_parts.Goals as goal

pub sides_of-requires-clause-within : goal.sides_of-requires-clause-within
sides_of-requires-clause-within c =
    let l : c.args.latch < length c.latches.result.now = omega (arith, c.requires.latch, ap length c.latches.ensures) in
    let at = slice_get_read c.latches.result.now (length c.latches.result.now) c.args.latch c.index-latches-latch.result refl l c.index-latches-latch.is in
    let here = subst (λ (z : List LatchAt). slice_get z c.args.latch ≡ Some c.index-latches-latch.result) c.latches.ensures at in
    (c.keeps.ensures.sound.latches c.args.latch c.index-latches-latch.result here).within

pub gates_of-requires-clause-within : goal.gates_of-requires-clause-within
gates_of-requires-clause-within c =
    let l : c.args.latch < length c.latches.result.now = omega (arith, c.requires.latch, ap length c.latches.ensures) in
    let at = slice_get_read c.latches.result.now (length c.latches.result.now) c.args.latch c.index-latches-latch.result refl l c.index-latches-latch.is in
    let here = subst (λ (z : List LatchAt). slice_get z c.args.latch ≡ Some c.index-latches-latch.result) c.latches.ensures at in
    (c.keeps.ensures.sound.latches c.args.latch c.index-latches-latch.result here).within

pub returns-clause-sides : goal.returns-clause-sides
returns-clause-sides c = λ l h.
    let inside : c.args.latch < length c.latches.result.now = omega (arith, c.requires.latch, ap length c.latches.ensures) in
    let at = slice_get_read c.latches.result.now (length c.latches.result.now) c.args.latch c.index-latches-latch.result refl inside c.index-latches-latch.is in
    let here = subst (λ (z : List LatchAt). slice_get z c.args.latch ≡ Some c.index-latches-latch.result) c.latches.ensures at in
    subst (λ (z : LatchAt). AreSides c.args.net.now z.next.0 z.out.0 c.in_ok-sides.sides) (one_at c.args.net.now.latches c.args.latch c.index-latches-latch.result l here h) c.in_ok-sides.ensures

pub returns-clause-gates : goal.returns-clause-gates
returns-clause-gates c = λ l h.
    let inside : c.args.latch < length c.latches.result.now = omega (arith, c.requires.latch, ap length c.latches.ensures) in
    let at = slice_get_read c.latches.result.now (length c.latches.result.now) c.args.latch c.index-latches-latch.result refl inside c.index-latches-latch.is in
    let here = subst (λ (z : List LatchAt). slice_get z c.args.latch ≡ Some c.index-latches-latch.result) c.latches.ensures at in
    subst (λ (z : LatchAt). AreInnerGates c.args.net.now z c.in_ok-gates.gates) (one_at c.args.net.now.latches c.args.latch c.index-latches-latch.result l here h) c.in_ok-gates.ensures
