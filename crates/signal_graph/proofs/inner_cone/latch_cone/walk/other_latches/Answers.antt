use Rattle.std.proofs.Common.{◌≡◌, ◌<◌, ℕ, List, Some, slice_get, length, refl, subst, ap, arith}
use Rattle.std.specs.Prelude.{Result, Ok, Err, IfOk, Contains}
use Rattle.std.proofs.lemmas.Option.{slice_get_read}
use Rattle.flat_net.proofs.circuit_theory.Lists.{at_of}
use Rattle.flat_net.proofs.Places.{one_at}
use Rattle.flat_net.specs.declared.parts.LatchAt.{LatchAt}
use Rattle.flat_net.specs.declared.signals.Signal.{Signal}
use Rattle.signal_graph.specs.inner_cone.latch_cone.Cones.{IsOther, AreOthers}
use Rattle.signal_graph.proofs.inner_cone.latch_cone.walk.other_latches.Goals as goal

both_ok : {X Y : Type 0} (r : Result X Y) (P Q R : X → Type 0) → ((x : X) → P x → Q x → R x) → IfOk r P → IfOk r Q → IfOk r R
both_ok (Ok x) P Q R f p q = f x p q
both_ok (Err y) P Q R f p q = tt

pub reached-requires : goal.reached-requires
reached-requires c =
    let l : c.args.latch < length c.latches.result.now = omega (arith, c.requires, ap length c.latches.ensures) in
    let at = slice_get_read c.latches.result.now (length c.latches.result.now) c.args.latch c.index-latches-latch.result refl l c.index-latches-latch.is in
    let here = subst (λ (z : List LatchAt). slice_get z c.args.latch ≡ Some c.index-latches-latch.result) c.latches.ensures at in
    (c.keeps.ensures.sound.latches c.args.latch c.index-latches-latch.result here).within

pub returns : goal.returns
returns c =
    let n = c.args.net.now in
    let taker = c.index-latches-latch.result in
    let seen = c.in_ok-seen.seen in
    let inside : c.args.latch < length c.latches.result.now = omega (arith, c.requires, ap length c.latches.ensures) in
    let at = slice_get_read c.latches.result.now (length c.latches.result.now) c.args.latch taker refl inside c.index-latches-latch.is in
    let here : slice_get n.latches c.args.latch ≡ Some taker = subst (λ (z : List LatchAt). slice_get z c.args.latch ≡ Some taker) c.latches.ensures at in
    both_ok c.others_among.result (λ (others : List Signal). (k : ℕ) (r : Signal) → slice_get others k ≡ Some r → IsOther n taker.out.0 r.0 × Contains seen r.0)
    (λ (others : List Signal). (s : ℕ) → Contains seen s → IsOther n taker.out.0 s → (k : ℕ) × (slice_get others k ≡ Some (record { 0 = s })))
    (λ (others : List Signal). (l : LatchAt) → slice_get n.latches c.args.latch ≡ Some l → AreOthers n l others)
    (λ others each all. λ l h. subst (λ (z : LatchAt). AreOthers n z others) (one_at n.latches c.args.latch taker l here h) (record {
      each = λ k r h. (each k r h).0;
      reached = λ k r h. let x = at_of seen r.0 (each k r h).1 in c.in_ok-seen.ensures.some.each x.0 r.0 x.1;
      all = λ s o reach. all s (c.in_ok-seen.ensures.all s reach) o;
    })) c.others_among.ensures.each c.others_among.ensures.all
