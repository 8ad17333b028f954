-- One signal more.
use Rattle.std.proofs.Common.{◌+◌, ◌<◌, ℕ, List, Vec, Global, length, take, subst, sym, refl}
use Rattle.std.specs.Prelude.{◌↔◌, Contains}
use Rattle.std.specs.List.Sorted.{IsStrictlyIncreasing}
use Rattle.std.proofs.lemmas.List.{take_all}
use Rattle.std.proofs.lemmas.List.Elements.{All-get_or}
use Rattle.std.proofs.lemmas.Result.{IfOk-weaker}
use Rattle.latch_kinds.specs.unate_enable.Among.{AreFrom, AreNumbersAmong, IsInputAt}
use Rattle.latch_kinds.proofs.unate_enable.Among.{from_none, from_same, from_more, among_made}
use Rattle.flat_net.proofs.Drivers.{one_input}
use Rattle.latch_kinds.proofs.unate_enable.sources.inputs_among.Goals as goal
use Rattle.latch_kinds.proofs.unate_enable.sources.inputs_among.Goals.{in-Some+in_ok-push, in_default}

pub loop-s-init : goal.loop-s-init
loop-s-init c = from_none (IsInputAt c.args.net.now) _ _ refl c.new-inputs.ensures.items

pub input_at-requires : goal.input_at-requires
input_at-requires c = All-get_or (λ s. s < length c.args.net.now.drivers) c.args.signals.now c.loop-s.s-index _ c.loop-s-test.true c.requires.within

pub loop-s-preserved : goal.loop-s-preserved
loop-s-preserved c =
    elim c.match-input_at.branch [
      | in-Some+in_ok-push w ↦
          subst (λ (v : Vec ℕ Global). AreFrom (IsInputAt c.args.net.now) (take (c.loop-s.s-index + 1) c.args.signals.now) v.items) (sym w.inputs-is)
          (from_more (IsInputAt c.args.net.now) c.args.signals.now c.loop-s.inputs.items c.loop-s.s-index 0 c.loop-s-test.true c.loop-s.invariant w.in-Some.i w.push.new.self.items w.in-Some.ensures.here (λ i at. one_input c.args.net.now _ i _ at w.in-Some.ensures.here) w.in_ok-push.ensures.items)
      | in_default w ↦
          subst (λ (v : Vec ℕ Global). AreFrom (IsInputAt c.args.net.now) (take (c.loop-s.s-index + 1) c.args.signals.now) v.items) (sym w.inputs-is)
          (from_same (IsInputAt c.args.net.now) c.args.signals.now c.loop-s.inputs.items c.loop-s.s-index 0 c.loop-s-test.true c.loop-s.invariant w.in_default.ensures.none)
    ]

pub returns : goal.returns
returns c =
    IfOk-weaker c.in_order.result (λ (made : List ℕ). IsStrictlyIncreasing made × ((x : ℕ) → Contains c.loop-s.inputs.items x ↔ Contains made x)) (AreNumbersAmong (IsInputAt c.args.net.now) c.args.signals.now)
    (λ made. among_made (IsInputAt c.args.net.now) c.args.signals.now c.loop-s.inputs.items made (subst (λ (l : List ℕ). AreFrom (IsInputAt c.args.net.now) l c.loop-s.inputs.items) (take_all c.loop-s.s-index c.args.signals.now c.loop-s-test.false) c.loop-s.invariant))
    c.in_order.ensures
