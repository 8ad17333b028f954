-- One signal's sides more.
use Rattle.std.proofs.Common.{◌≡◌, ◌≢◌, ◌<◌, ◌+◌, ℕ, List, Some, Contains, get_or, slice_get, subst, arith, inl, inr}
use Rattle.std.specs.Prelude.{◌⊎◌}
use Rattle.std.proofs.lemmas.Option.{slice_get_within, slice_get-get_or}
use Rattle.signal_graph.specs.inner_cone.latch_cone.circuit_theory.Circuit.{Reaches}
use Rattle.signal_graph.proofs.inner_cone.latch_cone.circuit_theory.Lists.{at_of}
use Rattle.signal_graph.proofs.inner_cone.latch_cone.circuit_theory.Sums.{same_or_not}
use Rattle.signal_graph.specs.inner_cone.latch_cone.flat_net.Signal.{Signal}
use Rattle.signal_graph.proofs.inner_cone.latch_cone.flat_net.Places.{one_at}
use Rattle.signal_graph.specs.inner_cone.Sides.{IsLowPut}
use Rattle.signal_graph.proofs.inner_cone.SideSignals.{IsDone, none_there, low_there, low_some, done_kept, all_sides}
use Rattle.signal_graph.proofs.inner_cone.sides.sides_among.Goals as goal

pub loop-signal-init : goal.loop-signal-init
loop-signal-init c =
    let least : ℕ = get_or c.args.ranks.now c.args.own.0 0 in
    let put : IsLowPut c.args.ranks.now (get_or c.args.ranks.now c.args.own.0 0) c.new-sides.result c.put_low.new.sides c.args.from =
    subst (λ m. IsLowPut c.args.ranks.now m c.new-sides.result c.put_low.new.sides c.args.from) c.number_at-least.ensures c.in_ok-put_low.ensures in
    record {
      some = low_some c.args.ranks.now least c.new-sides.result c.put_low.new.sides c.args.from put c.args.net.now c.args.from.0 c.args.own.0 c.requires.within Reaches.here
          (λ r h. absurd (none_there r (subst (λ (z : List Signal). Contains z r) c.new-sides.ensures h)));
      root = λ low. low_there c.args.ranks.now least c.new-sides.result c.put_low.new.sides c.args.from put low;
      done = λ i s below. absurd (omega (arith, below));
    }

pub put_sides-requires : goal.put_sides-requires
put_sides-requires c =
    let i = c.loop-signal.signal-index in
    c.requires.high.some.within i (get_or c.args.signals.now i 0) (slice_get-get_or c.args.signals.now i 0 c.loop-signal-test.true)

pub loop-signal-preserved : goal.loop-signal-preserved
loop-signal-preserved c =
    let i = c.loop-signal.signal-index in
    let s : ℕ = get_or c.args.signals.now i 0 in
    let at : slice_get c.args.signals.now i ≡ Some s = slice_get-get_or c.args.signals.now i 0 c.loop-signal-test.true in
    record {
      some = c.in_ok-put_sides.ensures.some c.args.from.0 (c.requires.high.some.each i s at) c.loop-signal.invariant.some;
      root = λ low. c.in_ok-put_sides.ensures.kept (record { 0 = c.args.from.0 }) (c.loop-signal.invariant.root low);
      done = λ k u below h. done k u h below (same_or_not k i) (record { reads = c.in_ok-put_sides.ensures.reads; source = c.in_ok-put_sides.ensures.source }) at;
    }
  where
    done : (k u : ℕ) → slice_get c.args.signals.now k ≡ Some u → k < c.loop-signal.signal-index + 1 → (k ≡ c.loop-signal.signal-index) ⊎ (k ≢ c.loop-signal.signal-index) →
        {s : ℕ} → IsDone c.args.net.now c.args.ranks.now c.args.own.0 s c.put_sides.new.sides → slice_get c.args.signals.now c.loop-signal.signal-index ≡ Some s →
        IsDone c.args.net.now c.args.ranks.now c.args.own.0 u c.put_sides.new.sides
    done k u h below (inr d) this at = done_kept c.args.net.now c.args.ranks.now c.args.own.0 u c.loop-signal.sides c.put_sides.new.sides c.in_ok-put_sides.ensures.kept (c.loop-signal.invariant.done k u (omega (arith, below, d)) h)
    done k u h below (inl e) {s} this at =
        let same = one_at c.args.signals.now c.loop-signal.signal-index s u at (subst (λ z. slice_get c.args.signals.now z ≡ Some u) e h) in
        subst (λ z. IsDone c.args.net.now c.args.ranks.now c.args.own.0 z c.put_sides.new.sides) same this

pub returns : goal.returns
returns c =
    all_sides c.args.net.now c.keeps.ensures.sound c.args.ranks.now c.requires.ranked c.args.from.0 c.args.own.0 c.args.signals.now c.requires.high c.loop-signal.sides c.loop-signal.invariant.some c.loop-signal.invariant.root
    (λ s h.
    let at = at_of c.args.signals.now s h in
    let l = slice_get_within c.args.signals.now at.0 s at.1 in
    c.loop-signal.invariant.done at.0 s (omega (arith, l, c.loop-signal-test.false)) at.1)
