-- One signal more.
use Rattle.std.proofs.Common.{◌≡◌, ◌≢◌, ◌<◌, ◌+◌, ℕ, Some, get_or, slice_get, subst, arith, inl, inr}
use Rattle.std.specs.Prelude.{◌⊎◌, Contains}
use Rattle.std.proofs.lemmas.Option.{slice_get_within, slice_get-get_or}
use Rattle.signal_graph.specs.inner_cone.latch_cone.flat_net.Signal.{Signal}
use Rattle.signal_graph.proofs.inner_cone.latch_cone.flat_net.Places.{one_at}
use Rattle.signal_graph.proofs.inner_cone.latch_cone.circuit_theory.Sums.{same_or_not}
use Rattle.signal_graph.specs.inner_cone.Inner.{IsLow, IsHighPut}
use Rattle.signal_graph.proofs.inner_cone.Inner.{high_stay, high_there, high_some, stay_or}
use Rattle.signal_graph.proofs.inner_cone.walk.put_all.Goals as goal

pub loop-signal-preserved : goal.loop-signal-preserved
loop-signal-preserved c =
    let i = c.loop-signal.signal-index in
    let r : Signal = get_or c.args.reads.now i (record { 0 = 0 }) in
    let at : slice_get c.args.reads.now i ≡ Some r = slice_get-get_or c.args.reads.now i (record { 0 = 0 }) c.loop-signal-test.true in
    let old = c.loop-signal.seen in
    let new = c.put_high.new.seen in
    let put : IsHighPut c.args.ranks.now c.args.least old new r.0 = c.in_ok-put_high.ensures in
    let stays = high_stay c.args.ranks.now c.args.least old new r.0 put in
    record {
      stay = λ k s h. stays k s (c.loop-signal.invariant.stay k s h);
      some = λ n from read some. high_some c.args.ranks.now c.args.least old new r.0 put n from (read i r at).0 (read i r at).1 (c.loop-signal.invariant.some n from read some);
      there = λ k s l h. there k s h l (same_or_not k i) at put;
    }
  where
    there : (k : ℕ) (s : Signal) → slice_get c.args.reads.now k ≡ Some s → k < c.loop-signal.signal-index + 1 → (k ≡ c.loop-signal.signal-index) ⊎ (k ≢ c.loop-signal.signal-index) →
        {r : Signal} → slice_get c.args.reads.now c.loop-signal.signal-index ≡ Some r → IsHighPut c.args.ranks.now c.args.least c.loop-signal.seen c.put_high.new.seen r.0 → Contains c.put_high.new.seen s.0 ⊎ IsLow c.args.ranks.now c.args.least s.0
    there k s h l (inl e) {r} at put =
        subst (λ (z : Signal). Contains c.put_high.new.seen z.0 ⊎ IsLow c.args.ranks.now c.args.least z.0) (one_at c.args.reads.now c.loop-signal.signal-index r s at (subst (λ z. slice_get c.args.reads.now z ≡ Some s) e h)) (high_there c.args.ranks.now c.args.least c.loop-signal.seen c.put_high.new.seen r.0 put)
    there k s h l (inr n) {r} at put =
        stay_or c.args.ranks.now c.args.least c.loop-signal.seen c.put_high.new.seen s.0 (high_stay c.args.ranks.now c.args.least c.loop-signal.seen c.put_high.new.seen r.0 put) (c.loop-signal.invariant.there k s (omega (arith, l, n)) h)

pub returns-clause-there : goal.returns-clause-there
returns-clause-there c = λ k r h. let l = slice_get_within c.args.reads.now k r h in c.loop-signal.invariant.there k r (omega (arith, l, c.loop-signal-test.false)) h
