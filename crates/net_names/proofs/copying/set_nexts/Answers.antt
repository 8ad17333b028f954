use Rattle.std.proofs.Common.{◌≡◌, ◌∙◌, ◌+◌, ◌<◌, ◌++◌, ℕ, zero, suc, Bool, true, List, [], ◌∷◌, refl, map, take, drop, set, replicate, length, slice_get, sym, ap, arith}
use Rattle.std.proofs.lemmas.List.{length-map, take_all}
use Rattle.std.proofs.lemmas.Option.{slice_get_within}
use Rattle.flat_net.specs.declared.signals.Signal.{Signal}
use Rattle.flat_net.specs.declared.parts.LatchAt.{LatchAt}
use Rattle.flat_net.specs.Makes.{MakerView, with_next}
use Rattle.flat_net.specs.View.{NetView}
use Rattle.net_names.specs.Fronts.{begun}
use Rattle.net_names.proofs.Copies.{latch_seen, next_step}
use Rattle.net_names.proofs.copying.set_nexts.Goals as goal

set_more : (count : ℕ) (marks : List Bool) → count < length marks → set (replicate count true ++ drop count marks) count true ≡ replicate (suc count) true ++ drop (suc count) marks
set_more zero [] l = absurd (omega (arith, l))
set_more zero (m ∷ marks) l = refl
set_more (suc count) [] l = absurd (omega (arith, l))
set_more (suc count) (m ∷ marks) l = ap (λ (ys : List Bool). true ∷ ys) (set_more count marks (omega (arith, l)))

latches_long : (ls : List LatchAt) → length (map begun (take (length ls) ls)) ≡ length ls
latches_long ls = length-map (take (length ls) ls) begun ∙ ap length (take_all (length ls) ls (omega arith))

pub set_next-requires-clause-latch : goal.set_next-requires-clause-latch
set_next-requires-clause-latch c =
    let n = c.args.original.now in
    let j = c.loop-latch.latch-index in
    let seen = latch_seen n.latches _ j c.latch-item.result c.latches-latch-items.ensures c.loop-latch-test.true c.latch-item.is in
    let own = ap (λ (s : Signal). slice_get n.drivers s.0) (sym seen.out) ∙ (c.keeps.ensures.sound.latches j seen.latch seen.at).owner in (
      j,
      ap (λ (m : NetView). slice_get m.drivers c.latch-item.result.out.0) c.loop-latch.invariant.net ∙ ap (λ (m : NetView). slice_get m.drivers c.latch-item.result.out.0) c.requires
          ∙ ap (λ ds. slice_get ds c.latch-item.result.out.0) (take_all (length n.inputs + length n.latches + length n.gates) n.drivers (omega (arith, c.keeps.ensures.laid.whole))) ∙ own,
    )

pub set_next-requires-clause-within : goal.set_next-requires-clause-within
set_next-requires-clause-within c =
    let n = c.args.original.now in
    let seen = latch_seen n.latches _ c.loop-latch.latch-index c.latch-item.result c.latches-latch-items.ensures c.loop-latch-test.true c.latch-item.is in
    let low = (c.keeps.ensures.sound.latches c.loop-latch.latch-index seen.latch seen.at).within in
    let next = ap (λ (s : Signal). s.0) seen.next in
    let long = ap (λ (m : NetView). length m.drivers) (c.loop-latch.invariant.net) ∙ ap (λ (m : NetView). length m.drivers) c.requires ∙ ap length (take_all (length n.inputs + length n.latches + length n.gates) n.drivers (omega (arith, c.keeps.ensures.laid.whole))) in
    omega (arith, low, long, next)

pub loop-latch-preserved : goal.loop-latch-preserved
loop-latch-preserved c =
    let n = c.args.original.now in
    let j = c.loop-latch.latch-index in
    let first = c.args.maker.now in
    let seen = latch_seen n.latches _ j c.latch-item.result c.latches-latch-items.ensures c.loop-latch-test.true c.latch-item.is in
    let within = slice_get_within n.latches j seen.latch seen.at in
    let own = ap (λ (s : Signal). slice_get n.drivers s.0) (sym seen.out) ∙ (c.keeps.ensures.sound.latches j seen.latch seen.at).owner in
    let drivers = ap (λ (m : NetView). slice_get m.drivers c.latch-item.result.out.0) c.loop-latch.invariant.net ∙ ap (λ (m : NetView). slice_get m.drivers c.latch-item.result.out.0) c.requires
    ∙ ap (λ ds. slice_get ds c.latch-item.result.out.0) (take_all (length n.inputs + length n.latches + length n.gates) n.drivers (omega (arith, c.keeps.ensures.laid.whole))) ∙ own in
    let is = c.set_next.ensures j drivers in
    let marks : length first.set ≡ length n.latches =
    c.keeps-2.ensures.set ∙ ap (λ (m : NetView). length m.latches) c.requires ∙ latches_long n.latches in
    let next : j + 1 ≡ suc j = omega arith in
    record {
      net = ap (λ (m : MakerView). m.net) is ∙ ap (λ (m : NetView). with_next m j c.latch-item.result.next) c.loop-latch.invariant.net
          ∙ ap (λ (s : Signal). let m : NetView = record first.net { latches = take j n.latches ++ map begun (drop j n.latches) } in with_next m j s) (sym seen.next)
          ∙ ap (λ (ls : List LatchAt). let m : NetView = record first.net { latches = ls } in m) (next_step n.latches j seen.latch seen.at ∙ ap (λ (k : ℕ). take k n.latches ++ map begun (drop k n.latches)) (sym next));
      set = ap (λ (m : MakerView). m.set) is ∙ ap (λ (bs : List Bool). set bs j true) c.loop-latch.invariant.set ∙ set_more j first.set (omega (arith, within, marks)) ∙ ap (λ (k : ℕ). replicate k true ++ drop k first.set) (sym next);
      few = omega (arith, within);
    }
