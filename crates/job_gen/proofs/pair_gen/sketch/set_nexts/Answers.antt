use Rattle.std.proofs.Common.{◌≡◌, ◌/◌, ◌%◌, ◌∙◌, true, sym, ap, arith, slice_get, slice_set}
use Rattle.flat_net.specs.declared.signals.Signal.{Signal}
use Rattle.flat_net.specs.declared.parts.LatchAt.{LatchAt}
use Rattle.flat_net.specs.Makes.{MakerView, with_next}
use Rattle.flat_net.proofs.Growth.{some_and}
use Rattle.job_gen.specs.pair_gen.Cells.{data_of}
use Rattle.job_gen.specs.pair_gen.Sketch.{covers_of, latch_cell, number_of, signal_of}
use Rattle.job_gen.proofs.pair_gen.Numbers.{number_within, data_placed}
use Rattle.job_gen.proofs.pair_gen.Tying.{tied_none, tied_more, next_latch, still}
use Rattle.job_gen.proofs.pair_gen.sketch.set_nexts.Goals as goal

pub loop-place-init : goal.loop-place-init
loop-place-init c =
    tied_none c.args.plan.now.circuit c.args.maker.now c.args.plan.now.regroup c.args.plan.now.words.now (covers_of c.args.plan.now.circuit c.args.plan.now.regroup) c.requires

pub set_next-requires-clause-latch : goal.set_next-requires-clause-latch
set_next-requires-clause-latch c =
    let there = next_latch c.args.plan.now.circuit c.args.maker.now c.loop-place.maker c.loop-place.place c.loop-place-test.true c.loop-place.invariant in
    let x = some_and (λ (l : LatchAt). l.out ≡ signal_of (latch_cell c.loop-place.place)) (slice_get c.loop-place.maker.net.latches c.loop-place.place) there in
    (c.loop-place.place, ap (λ (s : Signal). slice_get c.loop-place.maker.net.drivers s.0) (c.signal_of-latch.ensures ∙ sym x.2) ∙ (c.keeps.ensures.sound.latches c.loop-place.place x.0 x.1).owner)

pub set_next-requires-clause-within : goal.set_next-requires-clause-within
set_next-requires-clause-within c =
    let low = c.loop-place-test.true in
    let size = still c.args.plan.now.circuit c.args.maker.now c.loop-place.maker c.loop-place.place low c.loop-place.invariant ∙ c.requires.size in
    let taken = data_of c.args.plan.now.circuit (c.loop-place.place / 40) (c.loop-place.place % 40) in
    let small = number_within taken (data_placed c.args.plan.now.circuit (c.loop-place.place / 40) (c.loop-place.place % 40) (omega arith) (omega arith)) in
    let is : c.signal_of.result.0 ≡ number_of taken = ap (λ (s : Signal). s.0) (c.signal_of.ensures ∙ ap signal_of c.data_of.ensures) in
    omega (arith, size, small, is)

pub loop-place-preserved : goal.loop-place-preserved
loop-place-preserved c =
    let there = next_latch c.args.plan.now.circuit c.args.maker.now c.loop-place.maker c.loop-place.place c.loop-place-test.true c.loop-place.invariant in
    let x = some_and (λ (l : LatchAt). l.out ≡ signal_of (latch_cell c.loop-place.place)) (slice_get c.loop-place.maker.net.latches c.loop-place.place) there in
    let owner = ap (λ (s : Signal). slice_get c.loop-place.maker.net.drivers s.0) (c.signal_of-latch.ensures ∙ sym x.2) ∙ (c.keeps.ensures.sound.latches c.loop-place.place x.0 x.1).owner in
    let next = λ (s : Signal). let m : MakerView = record { net = with_next c.loop-place.maker.net c.loop-place.place s; set = slice_set c.loop-place.maker.set c.loop-place.place true } in m in
    tied_more c.args.plan.now.circuit c.args.maker.now c.loop-place.maker c.loop-place.place c.loop-place-test.true c.loop-place.invariant c.set_next.new.self
    (c.set_next.ensures c.loop-place.place owner ∙ ap next (c.signal_of.ensures ∙ ap signal_of c.data_of.ensures))
