use Rattle.std.proofs.Common.{◌≡◌, ◌<◌, List, false, get_or, slice_get, Some, None, length, subst, sym, ap, ◌∙◌, refl, arith}
use Rattle.std.proofs.lemmas.Option.{slice_get_within, slice_get_read, slice_get-get_or}
use Rattle.signal_graph.proofs.inner_cone.flat_net.Places.{one_at}
use Rattle.signal_graph.specs.inner_cone.flat_net.Gate.{Gate}
use Rattle.signal_graph.specs.inner_cone.flat_net.LatchAt.{LatchAt}
use Rattle.signal_graph.specs.inner_cone.flat_net.Driver.TheVariants as driver
use Rattle.signal_graph.specs.Graph.{IsNodeOf}
use Rattle.signal_graph.proofs.nodes.node_of.Goals as goal

pub bounds-gates-j : goal.bounds-gates-j
bounds-gates-j c =
    let g = c.keeps.ensures.sound.drivers c.args.s.0 (driver.Gate c.in-Gate.j) c.in-Gate.ensures in
    omega (arith, slice_get_within c.args.net.now.gates c.in-Gate.j g.0 g.1, ap length c.gates.ensures)

pub bounds-latches-j : goal.bounds-latches-j
bounds-latches-j c =
    let l = c.keeps.ensures.sound.drivers c.args.s.0 (driver.Latch c.in-Latch.j) c.in-Latch.ensures in
    omega (arith, slice_get_within c.args.net.now.latches c.in-Latch.j l.0 l.1, ap length c.latches.ensures)

pub bounds-skipped-j : goal.bounds-skipped-j
bounds-skipped-j c =
    let l = c.keeps.ensures.sound.drivers c.args.s.0 (driver.Latch c.in-Latch.j) c.in-Latch.ensures in
    omega (arith, slice_get_within c.args.net.now.latches c.in-Latch.j l.0 l.1, c.requires.bits)

pub taken-requires-clause-within : goal.taken-requires-clause-within
taken-requires-clause-within c =
    let l = c.keeps.ensures.sound.drivers c.args.s.0 (driver.Latch c.in-Latch.j) c.in-Latch.ensures in
    let inside : c.in-Latch.j < length c.latches.result.now = omega (arith, slice_get_within c.args.net.now.latches c.in-Latch.j l.0 l.1, ap length c.latches.ensures) in
    let at = slice_get_read c.latches.result.now (length c.latches.result.now) c.in-Latch.j c.index-latches-j.result refl inside c.index-latches-j.is in
    (c.keeps.ensures.sound.latches c.in-Latch.j c.index-latches-j.result (subst (λ (z : List LatchAt). slice_get z c.in-Latch.j ≡ Some c.index-latches-j.result) c.latches.ensures at)).within

pub returns-in_ok-copy-in-Gate : goal.returns-in_ok-copy-in-Gate
returns-in_ok-copy-in-Gate c = λ d h.
    let g = c.keeps.ensures.sound.drivers c.args.s.0 (driver.Gate c.in-Gate.j) c.in-Gate.ensures in
    let l : c.in-Gate.j < length c.gates.result.now = omega (arith, slice_get_within c.args.net.now.gates c.in-Gate.j g.0 g.1, ap length c.gates.ensures) in
    let at = slice_get_read c.gates.result.now (length c.gates.result.now) c.in-Gate.j c.index-gates-j.result refl l c.index-gates-j.is in
    subst (λ z. IsNodeOf c.args.net.now c.args.skipped.now z (record { reads = c.in_ok-copy-in-Gate.field-0; latch = None })) (one_at c.args.net.now.drivers c.args.s.0 (driver.Gate c.in-Gate.j) d c.in-Gate.ensures h)
    (c.index-gates-j.result, subst (λ (z : List Gate). slice_get z c.in-Gate.j ≡ Some c.index-gates-j.result) c.gates.ensures at, c.in_ok-copy-in-Gate.ensures ∙ ap (λ (z : Gate). z.fanins) (sym c.index-gates-j.is), refl)

pub returns-in_ok-reads-in-Latch : goal.returns-in_ok-reads-in-Latch
returns-in_ok-reads-in-Latch c = λ d h.
    let x = c.keeps.ensures.sound.drivers c.args.s.0 (driver.Latch c.in-Latch.j) c.in-Latch.ensures in
    let below = slice_get_within c.args.net.now.latches c.in-Latch.j x.0 x.1 in
    let inside : c.in-Latch.j < length c.latches.result.now = omega (arith, below, ap length c.latches.ensures) in
    let at = slice_get_read c.latches.result.now (length c.latches.result.now) c.in-Latch.j c.index-latches-j.result refl inside c.index-latches-j.is in
    let here = subst (λ (z : List LatchAt). slice_get z c.in-Latch.j ≡ Some c.index-latches-j.result) c.latches.ensures at in
    let bit = slice_get-get_or c.args.skipped.now c.in-Latch.j false (omega (arith, below, c.requires.bits)) in
    subst (λ z. IsNodeOf c.args.net.now c.args.skipped.now z (record { reads = c.in_ok-reads-in-Latch.reads; latch = Some c.in-Latch.j })) (one_at c.args.net.now.drivers c.args.s.0 (driver.Latch c.in-Latch.j) d c.in-Latch.ensures h)
    (c.index-latches-j.result, here, get_or c.args.skipped.now c.in-Latch.j false, bit, c.in_ok-reads-in-Latch.ensures, refl)
