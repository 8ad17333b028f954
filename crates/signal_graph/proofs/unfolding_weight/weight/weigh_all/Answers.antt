use Rattle.std.proofs.Common.{◌≡◌, ◌≢◌, ◌<◌, ◌≤◌, ◌+◌, ℕ, List, Some, map, slice_get, length, subst, sym, arith, inl, inr}
use Rattle.std.specs.Prelude.{◌⊎◌}
use Rattle.std.proofs.lemmas.Option.{slice_get_within}
use Rattle.signal_graph.proofs.inner_cone.flat_net.Nets.{some_at}
use Rattle.signal_graph.proofs.inner_cone.flat_net.Places.{one_at}
use Rattle.signal_graph.specs.inner_cone.flat_net.Signal.{Signal}
use Rattle.signal_graph.specs.inner_cone.flat_net.View.{circuit_of}
use Rattle.signal_graph.proofs.inner_cone.circuit_theory.Lists.{at_of}
use Rattle.signal_graph.proofs.inner_cone.circuit_theory.Sums.{same_or_not}
use Rattle.signal_graph.specs.inner_cone.circuit_theory.Sizes.{IsOver}
use Rattle.signal_graph.specs.Graph.{GraphView}
use Rattle.signal_graph.specs.unfolding_weight.Weight.{AreVisited, IsVisited, AreMet, AreThere, AreReadsThere}
use Rattle.signal_graph.proofs.unfolding_weight.Weights.{met_none, few_places, stay_there, is_weight, at_some, at_none, not_some, reads_stay, outputs_visited, outputs_there}
use Rattle.signal_graph.proofs.unfolding_weight.weight.weigh_all.Goals as goal

pub returns-in_default : goal.returns-in_default
returns-in_default c =
    let outputs = map (λ (s : Signal). s.0) c.args.outputs.now in
    let first : AreMet c.args.net.now outputs c.args.places.now 0 = subst (λ z. AreMet c.args.net.now outputs z 0) (sym c.requires.empty) (met_none c.args.net.now outputs) in
    not_some ((outputs : List ℕ) → AreVisited c.args.net.now outputs c.args.outputs.now 0 → AreMet c.args.net.now outputs c.args.places.now 0 → IsOver (circuit_of c.args.net.now) outputs c.args.cap) c.in_ok-first.field-0
    (λ x e. c.in_default.not-Some x e) c.in_ok-first.ensures.over outputs (outputs_visited c.args.net.now c.args.outputs.now) first

pub loop-at-init : goal.loop-at-init
loop-at-init c =
    let outputs = map (λ (s : Signal). s.0) c.args.outputs.now in
    let first : AreMet c.args.net.now outputs c.args.places.now 0 = subst (λ z. AreMet c.args.net.now outputs z 0) (sym c.requires.empty) (met_none c.args.net.now outputs) in
    record {
      met = at_some (λ (sum : ℕ). (outputs : List ℕ) → AreVisited c.args.net.now outputs c.args.outputs.now 0 → AreMet c.args.net.now outputs c.args.places.now 0 → AreMet c.args.net.now outputs c.meet_all.new.places sum)
          c.in_ok-first.field-0 c.in-Some.first c.in-Some.is c.in_ok-first.ensures.met outputs (outputs_visited c.args.net.now c.args.outputs.now) first;
      low = at_some (λ (sum : ℕ). sum ≤ c.args.cap) c.in_ok-first.field-0 c.in-Some.first c.in-Some.is c.in_ok-first.ensures.low;
      roots = outputs_there c.args.outputs.now c.meet_all.new.places
          (at_some (λ (sum : ℕ). AreThere c.args.outputs.now (length c.args.outputs.now) 0 c.meet_all.new.places) c.in_ok-first.field-0 c.in-Some.first c.in-Some.is c.in_ok-first.ensures.there);
      closed = λ i p l. absurd (omega (arith, l));
    }

pub meet_reads-requires-clause-few : goal.meet_reads-requires-clause-few
meet_reads-requires-clause-few c = omega (arith, few_places c.args.net.now c.loop-at.places, c.loop-at.invariant.met.sum)

pub returns-in-None : goal.returns-in-None
returns-in-None c =
    let outputs = map (λ (s : Signal). s.0) c.args.outputs.now in
    at_none ((outputs : List ℕ) → IsVisited c.args.net.now outputs c.key-place.result → AreMet c.args.net.now outputs c.loop-at.places c.loop-at.total → IsOver (circuit_of c.args.net.now) outputs c.args.cap) c.in_ok-sum.field-0 c.in-None.is
    c.in_ok-sum.ensures.over outputs (c.loop-at.invariant.met.visited c.loop-at.at c.key-place.result c.key-place.ensures) c.loop-at.invariant.met

pub loop-at-smaller : goal.loop-at-smaller
loop-at-smaller c = omega (arith, c.loop-at-test.true, c.len.ensures, few_places c.args.net.now c.loop-at.places, c.loop-at.invariant.met.sum, c.loop-at.invariant.low)

pub loop-at-preserved : goal.loop-at-preserved
loop-at-preserved c = record {
  met = at_some (λ (sum : ℕ). (outputs : List ℕ) → IsVisited c.args.net.now outputs c.key-place.result → AreMet c.args.net.now outputs c.loop-at.places c.loop-at.total → AreMet c.args.net.now outputs c.meet_reads.new.places sum)
      c.in_ok-sum.field-0 c.in-Some-2.sum c.in-Some-2.is c.in_ok-sum.ensures.met (map (λ (s : Signal). s.0) c.args.outputs.now)
      (c.loop-at.invariant.met.visited c.loop-at.at c.key-place.result c.key-place.ensures) c.loop-at.invariant.met;
  low = at_some (λ (sum : ℕ). sum ≤ c.args.cap) c.in_ok-sum.field-0 c.in-Some-2.sum c.in-Some-2.is c.in_ok-sum.ensures.low;
  roots = λ o h. stay_there c.loop-at.places c.meet_reads.new.places (o, 0) c.in_ok-sum.ensures.stay (c.loop-at.invariant.roots o h);
  closed = λ i p l h. closed i p h l (same_or_not i c.loop-at.at);
}
  where
    -- a place in the old list is the same in the new one
    was : (i : ℕ) (p : ℕ × ℕ) → i < length c.loop-at.places → slice_get c.meet_reads.new.places i ≡ Some p → slice_get c.loop-at.places i ≡ Some p
    was i p l h =
        let old = some_at c.loop-at.places i l in
        let same : old.0 ≡ p = one_at c.meet_reads.new.places i old.0 p (c.in_ok-sum.ensures.stay i old.0 old.1) h in
        subst (λ (z : ℕ × ℕ). slice_get c.loop-at.places i ≡ Some z) same old.1

    within : c.loop-at.at < length c.loop-at.places
    within = omega (arith, c.loop-at-test.true, c.len.ensures)

    closed : (i : ℕ) (p : ℕ × ℕ) → slice_get c.meet_reads.new.places i ≡ Some p → i < c.loop-at.at + 1 → (i ≡ c.loop-at.at) ⊎ (i ≢ c.loop-at.at) → AreReadsThere c.args.nodes.now p c.meet_reads.new.places
    closed i p h l (inr n) =
        let before : i < c.loop-at.at = omega (arith, l, n) in
        reads_stay c.args.nodes.now p c.loop-at.places c.meet_reads.new.places c.in_ok-sum.ensures.stay (c.loop-at.invariant.closed i p before (was i p (omega (arith, before, within)) h))
    closed i p h l (inl e) =
        let here = was i p (omega (arith, e, within)) h in
        let same : c.key-place.result ≡ p = one_at c.loop-at.places c.loop-at.at c.key-place.result p c.key-place.ensures (subst (λ z. slice_get c.loop-at.places z ≡ Some p) e here) in
        subst (λ (z : ℕ × ℕ). AreReadsThere c.args.nodes.now z c.meet_reads.new.places) same
        (at_some (λ (sum : ℕ). AreReadsThere c.args.nodes.now c.key-place.result c.meet_reads.new.places) c.in_ok-sum.field-0 c.in-Some-2.sum c.in-Some-2.is c.in_ok-sum.ensures.there)

pub returns : goal.returns
returns c =
    let outputs = map (λ (s : Signal). s.0) c.args.outputs.now in
    let g : GraphView = record { nodes = c.args.nodes.now; latches = c.args.net.now.latches; skipped = c.requires.graph.bits } in (
      is_weight c.args.net.now c.keeps.ensures.sound outputs c.loop-at.places c.loop-at.total c.loop-at.invariant.met g c.requires.graph.plain c.loop-at.invariant.roots
          (λ p h node at k r reads.
          let place = at_of c.loop-at.places p h in
          let l = slice_get_within c.loop-at.places place.0 p place.1 in
          c.loop-at.invariant.closed place.0 p (omega (arith, l, c.loop-at-test.false, c.len.ensures)) place.1 node k r at reads),
      c.loop-at.invariant.low,
    )
