-- One signal's reads more.
use Rattle.std.proofs.Common.{◌≡◌, ◌≢◌, ◌<◌, ◌+◌, ℕ, Some, slice_get, length, subst, sym, arith, inl, inr}
use Rattle.std.specs.Prelude.{Contains, ◌⊎◌}
use Rattle.std.proofs.lemmas.Option.{slice_get_within}
use Rattle.signal_graph.proofs.inner_cone.latch_cone.circuit_theory.Lists.{at_of}
use Rattle.signal_graph.proofs.inner_cone.latch_cone.circuit_theory.Sums.{same_or_not}
use Rattle.signal_graph.specs.inner_cone.latch_cone.circuit_theory.Circuit.{Reads, Reaches}
use Rattle.signal_graph.proofs.inner_cone.latch_cone.flat_net.Places.{one_at}
use Rattle.signal_graph.proofs.inner_cone.latch_cone.flat_net.Nets.{some_at}
use Rattle.signal_graph.specs.inner_cone.latch_cone.flat_net.View.{circuit_of}
use Rattle.signal_graph.specs.inner_cone.latch_cone.Cones.{AreSome}
use Rattle.signal_graph.proofs.inner_cone.latch_cone.Walks.{some_none, some_few}
use Rattle.signal_graph.specs.inner_cone.Inner.{IsLow, IsHighPut}
use Rattle.signal_graph.proofs.inner_cone.Inner.{high_there, high_some, stay_or}
use Rattle.signal_graph.proofs.inner_cone.walk.put_walked.Goals as goal

pub loop-at-init : goal.loop-at-init
loop-at-init c =
    let put : IsHighPut c.args.ranks.now c.args.least c.args.seen.now c.put_high.new.seen c.args.from.0 = c.in_ok-put_high.ensures in
    record {
      some = high_some c.args.ranks.now c.args.least c.args.seen.now c.put_high.new.seen c.args.from.0 put c.args.net.now c.args.from.0 c.requires.within Reaches.here
          (subst (λ z. AreSome c.args.net.now c.args.from.0 z) (sym c.requires.empty) (some_none c.args.net.now c.args.from.0));
      root = high_there c.args.ranks.now c.args.least c.args.seen.now c.put_high.new.seen c.args.from.0 put;
      closed = λ i s l. absurd (omega (arith, l));
    }

pub loop-at-smaller : goal.loop-at-smaller
loop-at-smaller c = omega (arith, c.loop-at-test.true, c.len.ensures, some_few c.args.net.now c.args.from.0 c.loop-at.seen c.loop-at.invariant.some)

pub loop-at-preserved : goal.loop-at-preserved
loop-at-preserved c = record {
  some = c.in_ok-put_reads.ensures.some c.args.from.0 (c.loop-at.invariant.some.each c.loop-at.at c.key-signal.result c.key-signal.ensures) c.loop-at.invariant.some;
  root = stay_or c.args.ranks.now c.args.least c.loop-at.seen c.put_reads.new.seen c.args.from.0 c.in_ok-put_reads.ensures.stay c.loop-at.invariant.root;
  closed = λ i s l h. closed i s h l (same_or_not i c.loop-at.at);
}
  where
    -- a signal in the old list is the same in the new one
    was : (i s : ℕ) → i < length c.loop-at.seen → slice_get c.put_reads.new.seen i ≡ Some s → slice_get c.loop-at.seen i ≡ Some s
    was i s l h =
        let old = some_at c.loop-at.seen i l in
        let same : old.0 ≡ s = one_at c.put_reads.new.seen i old.0 s (c.in_ok-put_reads.ensures.stay i old.0 old.1) h in
        subst (λ z. slice_get c.loop-at.seen i ≡ Some z) same old.1

    within : c.loop-at.at < length c.loop-at.seen
    within = omega (arith, c.loop-at-test.true, c.len.ensures)

    closed : (i s : ℕ) → slice_get c.put_reads.new.seen i ≡ Some s → i < c.loop-at.at + 1 → (i ≡ c.loop-at.at) ⊎ (i ≢ c.loop-at.at) → (r : ℕ) → Reads (circuit_of c.args.net.now) s r → Contains c.put_reads.new.seen r ⊎ IsLow c.args.ranks.now c.args.least r
    closed i s h l (inr d) = λ r reads.
        let before : i < c.loop-at.at = omega (arith, l, d) in
        stay_or c.args.ranks.now c.args.least c.loop-at.seen c.put_reads.new.seen r c.in_ok-put_reads.ensures.stay (c.loop-at.invariant.closed i s before (was i s (omega (arith, before, within)) h) r reads)
    closed i s h l (inl e) =
        let here = was i s (omega (arith, e, within)) h in
        let same = one_at c.loop-at.seen c.loop-at.at c.key-signal.result s c.key-signal.ensures (subst (λ z. slice_get c.loop-at.seen z ≡ Some s) e here) in
        subst (λ z. (r : ℕ) → Reads (circuit_of c.args.net.now) z r → Contains c.put_reads.new.seen r ⊎ IsLow c.args.ranks.now c.args.least r) same c.in_ok-put_reads.ensures.there

pub put_reads-requires : goal.put_reads-requires
put_reads-requires c = c.loop-at.invariant.some.within c.loop-at.at c.key-signal.result c.key-signal.ensures

pub returns : goal.returns
returns c = record {
  some = c.loop-at.invariant.some;
  begins = c.loop-at.invariant.root;
  closed = λ s q h reads.
      let at = at_of c.loop-at.seen s h in
      let l = slice_get_within c.loop-at.seen at.0 s at.1 in
      c.loop-at.invariant.closed at.0 s (omega (arith, l, c.loop-at-test.false, c.len.ensures)) at.1 q reads;
}
