-- One signal more.
use Rattle.std.proofs.Common.{◌≡◌, ◌≢◌, ◌<◌, ◌+◌, ℕ, Some, get_or, slice_get, subst, arith, inl, inr}
use Rattle.std.specs.Prelude.{◌⊎◌, Contains}
use Rattle.std.proofs.lemmas.Option.{slice_get_within, slice_get-get_or}
use Rattle.signal_graph.specs.inner_cone.latch_cone.flat_net.Signal.{Signal}
use Rattle.signal_graph.proofs.inner_cone.latch_cone.flat_net.Places.{one_at}
use Rattle.signal_graph.proofs.inner_cone.latch_cone.circuit_theory.Sums.{same_or_not}
use Rattle.signal_graph.specs.inner_cone.Inner.{IsLow}
use Rattle.signal_graph.specs.inner_cone.Sides.{IsLowPut}
use Rattle.signal_graph.proofs.inner_cone.SideSignals.{low_kept, low_there, low_some}
use Rattle.signal_graph.proofs.inner_cone.sides.put_lows.Goals as goal

pub loop-signal-preserved : goal.loop-signal-preserved
loop-signal-preserved c =
    let i = c.loop-signal.signal-index in
    let r : Signal = get_or c.args.reads.now i (record { 0 = 0 }) in
    let at : slice_get c.args.reads.now i ≡ Some r = slice_get-get_or c.args.reads.now i (record { 0 = 0 }) c.loop-signal-test.true in
    let old = c.loop-signal.sides in
    let new = c.put_low.new.sides in
    let put : IsLowPut c.args.ranks.now c.args.least old new r = c.in_ok-put_low.ensures in
    record {
      kept = λ q h. low_kept c.args.ranks.now c.args.least old new r put q (c.loop-signal.invariant.kept q h);
      some = λ n from own read some. low_some c.args.ranks.now c.args.least old new r put n from own (read i r at).0 (read i r at).1 (c.loop-signal.invariant.some n from own read some);
      there = λ k s l h low. there k s h low l (same_or_not k i) at put;
    }
  where
    there : (k : ℕ) (s : Signal) → slice_get c.args.reads.now k ≡ Some s → IsLow c.args.ranks.now c.args.least s.0 → k < c.loop-signal.signal-index + 1 → (k ≡ c.loop-signal.signal-index) ⊎ (k ≢ c.loop-signal.signal-index) →
        {r : Signal} → slice_get c.args.reads.now c.loop-signal.signal-index ≡ Some r → IsLowPut c.args.ranks.now c.args.least c.loop-signal.sides c.put_low.new.sides r → Contains c.put_low.new.sides s
    there k s h low l (inl e) {r} at put =
        let same : r ≡ s = one_at c.args.reads.now c.loop-signal.signal-index r s at (subst (λ z. slice_get c.args.reads.now z ≡ Some s) e h) in
        low_there c.args.ranks.now c.args.least c.loop-signal.sides c.put_low.new.sides s (subst (λ (z : Signal). IsLowPut c.args.ranks.now c.args.least c.loop-signal.sides c.put_low.new.sides z) same put) low
    there k s h low l (inr n) {r} at put = low_kept c.args.ranks.now c.args.least c.loop-signal.sides c.put_low.new.sides r put s (c.loop-signal.invariant.there k s (omega (arith, l, n)) h low)

pub returns-clause-there : goal.returns-clause-there
returns-clause-there c = λ k r h. let l = slice_get_within c.args.reads.now k r h in c.loop-signal.invariant.there k r (omega (arith, l, c.loop-signal-test.false)) h
