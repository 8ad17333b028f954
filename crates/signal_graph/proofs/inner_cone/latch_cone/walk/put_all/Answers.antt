use Rattle.std.proofs.Common.{◌≡◌, ◌≢◌, ◌<◌, ◌+◌, ℕ, Some, get_or, slice_get, subst, arith, inl, inr}
use Rattle.std.specs.Prelude.{◌⊎◌, Contains}
use Rattle.std.proofs.lemmas.Option.{slice_get_within, slice_get-get_or}
use Rattle.flat_net.specs.declared.signals.Signal.{Signal}
use Rattle.flat_net.proofs.Places.{one_at}
use Rattle.flat_net.proofs.circuit_theory.Sums.{same_or_not}
use Rattle.signal_graph.proofs.inner_cone.latch_cone.Walks.{IsPut, is_put, put_stay, put_there, stay_there, put_some}
use Rattle.signal_graph.proofs.inner_cone.latch_cone.walk.put_all.Goals as goal

pub loop-signal-preserved : goal.loop-signal-preserved
loop-signal-preserved c =
    let i = c.loop-signal.signal-index in
    let r : Signal = get_or c.args.reads.now i (record { 0 = 0 }) in
    let at : slice_get c.args.reads.now i ≡ Some r = slice_get-get_or c.args.reads.now i (record { 0 = 0 }) c.loop-signal-test.true in
    let old = c.loop-signal.seen in
    let new = c.insert.new.self in
    let put : IsPut old new r.0 = is_put old new r.0 c.in_ok-insert.ensures.ok in
    let stays = put_stay old new r.0 put in
    record {
      stay = λ k s h. stays k s (c.loop-signal.invariant.stay k s h);
      some = λ n from read some. put_some n from old new r.0 put (read i r at).0 (read i r at).1 (c.loop-signal.invariant.some n from read some);
      there = λ k s l h. there k s h l (same_or_not k i) at put;
    }
  where
    there : (k : ℕ) (s : Signal) → slice_get c.args.reads.now k ≡ Some s → k < c.loop-signal.signal-index + 1 → (k ≡ c.loop-signal.signal-index) ⊎ (k ≢ c.loop-signal.signal-index) →
        {r : Signal} → slice_get c.args.reads.now c.loop-signal.signal-index ≡ Some r → IsPut c.loop-signal.seen c.insert.new.self r.0 → Contains c.insert.new.self s.0
    there k s h l (inl e) {r} at put =
        subst (λ (z : Signal). Contains c.insert.new.self z.0) (one_at c.args.reads.now c.loop-signal.signal-index r s at (subst (λ z. slice_get c.args.reads.now z ≡ Some s) e h)) (put_there c.loop-signal.seen c.insert.new.self r.0 put)
    there k s h l (inr n) {r} at put =
        stay_there c.loop-signal.seen c.insert.new.self s.0 (put_stay c.loop-signal.seen c.insert.new.self r.0 put) (c.loop-signal.invariant.there k s (omega (arith, l, n)) h)

pub returns-clause-there : goal.returns-clause-there
returns-clause-there c = λ k r h. let l = slice_get_within c.args.reads.now k r h in c.loop-signal.invariant.there k r (omega (arith, l, c.loop-signal-test.false)) h
