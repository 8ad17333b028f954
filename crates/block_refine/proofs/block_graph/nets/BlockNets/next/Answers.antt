-- A latch of A, or of B behind them.
use Rattle.std.proofs.Common.{◌≡◌, ◌∙◌, ◌+◌, ◌-◌, List, length, map, get_or, slice_get, Some, sym, ap, subst, arith}
use Rattle.std.proofs.lemmas.Option.{slice_get-get_or}
use Rattle.circuit_theory.proofs.Lists.{length-map}
use Rattle.circuit_theory.proofs.Numbers.{slice_get-map}
use Rattle.flat_net.specs.declared.parts.LatchAt.{LatchAt}
use Rattle.block_refine.specs.latch_blocks.Partitions.{nexts_of}
use Rattle.block_refine.proofs.latch_blocks.Placing.{left_next, right_next, at_left, at_right}
use Rattle.block_refine.proofs.block_graph.nets.BlockNets.next.Goals as goal

pub returns-then-place-left-clause-signal : goal.returns-then-place-left-clause-signal
returns-then-place-left-clause-signal c =
    let ls = c.latches-left.result.now in
    let l : LatchAt = get_or ls c.args.place c.index-left-place.result in
    let at : slice_get c.args.self.now.left.now.latches c.args.place ≡ Some l = ap (λ (zs : List LatchAt). slice_get zs c.args.place) (sym c.latches-left.ensures) ∙ slice_get-get_or ls c.args.place c.index-left-place.result (omega (arith, c.if-place-left.true)) in
    (c.keeps.ensures.sound.latches c.args.place l at).within

pub returns-then-place-left-clause-at : goal.returns-then-place-left-clause-at
returns-then-place-left-clause-at c =
    let a = c.args.self.now.left.now in
    let b = c.args.self.now.right.now in
    let ls = c.latches-left.result.now in
    let l : LatchAt = get_or ls c.args.place c.index-left-place.result in
    let at : slice_get a.latches c.args.place ≡ Some l = ap (λ (zs : List LatchAt). slice_get zs c.args.place) (sym c.latches-left.ensures) ∙ slice_get-get_or ls c.args.place c.index-left-place.result (omega (arith, c.if-place-left.true)) in
    at_left (map left_next a.latches) (map right_next b.latches) c.args.place (left_next l) (slice_get-map left_next a.latches c.args.place l at)

pub returns-else-place-left-clause-at : goal.returns-else-place-left-clause-at
returns-else-place-left-clause-at c =
    let a = c.args.self.now.left.now in
    let b = c.args.self.now.right.now in
    let ls = c.latches.result.now in
    let i = c.args.place - length c.latches-left.result.now in
    let l : LatchAt = get_or ls i c.index-latches-place.result in
    let left : length c.latches-left.result.now ≡ length a.latches = ap length c.latches-left.ensures in
    let right : length ls ≡ length b.latches = ap length c.latches.ensures in
    let at : slice_get b.latches i ≡ Some l = ap (λ (zs : List LatchAt). slice_get zs i) (sym c.latches.ensures) ∙ slice_get-get_or ls i c.index-latches-place.result (omega (arith, c.requires, c.if-place-left.false, left, right)) in
    let e : length a.latches + i ≡ c.args.place = omega (arith, c.if-place-left.false, left) in
    subst (λ k. slice_get (nexts_of a b) k ≡ Some (right_next l)) e
    (at_right (map left_next a.latches) (map right_next b.latches) (length a.latches) i (right_next l) (length-map left_next a.latches) (slice_get-map right_next b.latches i l at))

pub returns-else-place-left-clause-signal : goal.returns-else-place-left-clause-signal
returns-else-place-left-clause-signal c =
    let a = c.args.self.now.left.now in
    let b = c.args.self.now.right.now in
    let ls = c.latches.result.now in
    let i = c.args.place - length c.latches-left.result.now in
    let l : LatchAt = get_or ls i c.index-latches-place.result in
    let left : length c.latches-left.result.now ≡ length a.latches = ap length c.latches-left.ensures in
    let right : length ls ≡ length b.latches = ap length c.latches.ensures in
    let at : slice_get b.latches i ≡ Some l = ap (λ (zs : List LatchAt). slice_get zs i) (sym c.latches.ensures) ∙ slice_get-get_or ls i c.index-latches-place.result (omega (arith, c.requires, c.if-place-left.false, left, right)) in
    (c.keeps-2.ensures.sound.latches i l at).within
