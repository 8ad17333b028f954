-- One signal more.
use Rattle.std.proofs.Common.{◌+◌, ◌<◌, ℕ, List, Vec, Global, length, take, subst, sym, refl}
use Rattle.std.specs.Prelude.{◌↔◌, Contains}
use Rattle.std.specs.List.Sorted.{IsStrictlyIncreasing}
use Rattle.std.proofs.lemmas.List.{take_all}
use Rattle.std.proofs.lemmas.List.Elements.{All-get_or}
use Rattle.std.proofs.lemmas.Result.{IfOk-weaker}
use Rattle.latch_kinds.specs.unate_enable.Among.{AreFrom, AreNumbersAmong, IsOtherLatchAt}
use Rattle.latch_kinds.proofs.unate_enable.Among.{from_none, from_same, from_more, among_made}
use Rattle.flat_net.proofs.Drivers.{one_latch}
use Rattle.latch_kinds.proofs.unate_enable.sources.latches_among.Goals as goal
use Rattle.latch_kinds.proofs.unate_enable.sources.latches_among.Goals.{in-Some+in_ok-push, in_default}

pub loop-s-init : goal.loop-s-init
loop-s-init c = from_none (IsOtherLatchAt c.args.net.now c.args.latch) _ _ refl c.new-latches.ensures.items

pub other_latch_at-requires : goal.other_latch_at-requires
other_latch_at-requires c = All-get_or (λ s. s < length c.args.net.now.drivers) c.args.signals.now c.loop-s.s-index _ c.loop-s-test.true c.requires.within

pub loop-s-preserved : goal.loop-s-preserved
loop-s-preserved c =
    elim c.match-other_latch_at.branch [
      | in-Some+in_ok-push w ↦
          subst (λ (v : Vec ℕ Global). AreFrom (IsOtherLatchAt c.args.net.now c.args.latch) (take (c.loop-s.s-index + 1) c.args.signals.now) v.items) (sym w.latches-is)
          (from_more (IsOtherLatchAt c.args.net.now c.args.latch) c.args.signals.now c.loop-s.latches.items c.loop-s.s-index 0 c.loop-s-test.true c.loop-s.invariant w.in-Some.j w.push.new.self.items w.in-Some.ensures.here (λ i at. one_latch c.args.net.now _ i _ at.0 w.in-Some.ensures.here.0) w.in_ok-push.ensures.items)
      | in_default w ↦
          subst (λ (v : Vec ℕ Global). AreFrom (IsOtherLatchAt c.args.net.now c.args.latch) (take (c.loop-s.s-index + 1) c.args.signals.now) v.items) (sym w.latches-is)
          (from_same (IsOtherLatchAt c.args.net.now c.args.latch) c.args.signals.now c.loop-s.latches.items c.loop-s.s-index 0 c.loop-s-test.true c.loop-s.invariant w.in_default.ensures.none)
    ]

pub returns : goal.returns
returns c =
    IfOk-weaker c.in_order.result (λ (made : List ℕ). IsStrictlyIncreasing made × ((x : ℕ) → Contains c.loop-s.latches.items x ↔ Contains made x)) (AreNumbersAmong (IsOtherLatchAt c.args.net.now c.args.latch) c.args.signals.now)
    (λ made. among_made (IsOtherLatchAt c.args.net.now c.args.latch) c.args.signals.now c.loop-s.latches.items made (subst (λ (l : List ℕ). AreFrom (IsOtherLatchAt c.args.net.now c.args.latch) l c.loop-s.latches.items) (take_all c.loop-s.s-index c.args.signals.now c.loop-s-test.false) c.loop-s.invariant))
    c.in_order.ensures
