-- The walk ends where each place in the table was expanded, or where it is refused.
use Rattle.std.proofs.Common.{◌≡◌, ◌∙◌, ◌+◌, ◌-◌, ◌*◌, ◌<◌, ℕ, List, [], ◌∷◌, ◌++◌, length, take, refl, sym, ap, subst, arith, inl, inr}
use Rattle.std.proofs.lemmas.Result.{err_from_is_err_and}
use Rattle.event_nodes.proofs.flat_net.Places.{All-at}
use Rattle.event_nodes.specs.View.{EventCircuitView}
use Rattle.event_nodes.specs.Visited.{IsWeighed, AreNodesFrom, places_weight}
use Rattle.event_nodes.specs.flat_net.Weights.{weight_at}
use Rattle.event_nodes.proofs.flat_net.Drivers.{weight_positive}
use Rattle.event_nodes.proofs.Growing.{grows_refl, grows_trans}
use Rattle.event_nodes.proofs.Lists.{adds_none, adds_contains, adds_weaker}
use Rattle.edbf_unfold.specs.declared.event_literals.event_walk.frames.Ways.{Ways}
use Rattle.edbf_unfold.specs.event_literals.event_walk.Walk.{IsSeen, IsVisitedPlace, IsWalk, IsOwnPlace}
use Rattle.edbf_unfold.proofs.event_literals.event_walk.Lent.{sound_of}
use Rattle.edbf_unfold.proofs.event_literals.event_walk.Light.{light_next}
use Rattle.edbf_unfold.proofs.event_literals.event_walk.Exact.{exact_first, exact_more, counting_more, counting_on}
use Rattle.edbf_unfold.proofs.event_literals.event_walk.Opening.{both_hold, walk_first, walk_more}
use Rattle.edbf_unfold.proofs.event_literals.event_walk.Stepping.{refused_memory, refused_ok, nodes_none, refused_on}
use Rattle.edbf_unfold.proofs.event_literals.event_walk.walker.EventWalker.visited.Goals as goal

pub loop-at-init : goal.loop-at-init
loop-at-init c = record {
  walk = subst (λ (o : List Ways). IsWalk c.args.self.now c.args.self.now c.args.events.now c.args.events.now c.args.root c.args.beside c.add-2.new.table o 0 0 (5 * c.args.counter.now.weight)) (sym c.new-ways.ensures.items)
      (walk_first c.args.self.now c.args.events.now c.args.root c.args.beside c.add-2.new.table (5 * c.args.counter.now.weight)
      (both_hold (IsSeen c.args.self.now.circuit c.args.self.now.frames c.args.events.now.children) _ _ _ c.args.root c.args.beside c.new-table.ensures c.add.ensures.adds c.add-2.ensures.adds c.requires.seen.0 c.requires.seen.1)
      (both_hold (IsOwnPlace c.args.self.now.circuit.net c.args.self.now.frames c.args.root.0 c.args.beside.0) _ _ _ c.args.root c.args.beside c.new-table.ensures c.add.ensures.adds c.add-2.ensures.adds (inl refl) (inr (inl refl)))
      (adds_contains (λ (q : ℕ × ℕ). q ≡ c.args.beside) _ _ c.args.root c.add-2.ensures.adds c.in_ok-add.ensures.here) c.in_ok-add-2.ensures.here (omega (arith, ap length c.new-table.ensures, c.add.ensures.few, c.add-2.ensures.few)));
  exact = exact_first c.args.self.now c.args.events.now c.args.counter.now c.args.root c.args.beside c.add-2.new.table
      (λ s both. both_hold (IsVisitedPlace c.args.self.now.circuit c.args.self.now.frames c.args.events.now.children s) _ _ _ c.args.root c.args.beside c.new-table.ensures c.add.ensures.adds c.add-2.ensures.adds both.0 both.1)
      c.requires.weighed c.requires.few;
}

pub count-requires-clause-framed : goal.count-requires-clause-framed
count-requires-clause-framed c = let seen = All-at (IsSeen c.loop-at.self.circuit c.loop-at.self.frames c.loop-at.events.children) _ _ _ c.pair-place.ensures c.loop-at.invariant.walk.seen in (seen.0, seen.1)

pub count-requires-clause-signal : goal.count-requires-clause-signal
count-requires-clause-signal c = let seen = All-at (IsSeen c.loop-at.self.circuit c.loop-at.self.frames c.loop-at.events.children) _ _ _ c.pair-place.ensures c.loop-at.invariant.walk.seen in seen.3

pub count-requires-clause-weighed : goal.count-requires-clause-weighed
count-requires-clause-weighed c = subst (λ (e : EventCircuitView). IsWeighed e.net c.loop-at.counter) (sym c.loop-at.invariant.walk.opened.circuit) c.loop-at.invariant.exact.weighed

pub expand-requires-clause-seen : goal.expand-requires-clause-seen
expand-requires-clause-seen c = All-at (IsSeen c.loop-at.self.circuit c.loop-at.self.frames c.loop-at.events.children) _ _ _ c.pair-place.ensures c.loop-at.invariant.walk.seen

pub expand-requires-clause-few : goal.expand-requires-clause-few
expand-requires-clause-few c = c.loop-at.invariant.exact.few

pub expand-requires-clause-frames : goal.expand-requires-clause-frames
expand-requires-clause-frames c =
    omega (arith, c.loop-at.invariant.walk.opened.few_frames, c.loop-at.invariant.walk.passed, c.loop-at.invariant.walk.small, c.loop-at.invariant.exact.weighed.small, c.requires.frames)

pub expand-requires-clause-table : goal.expand-requires-clause-table
expand-requires-clause-table c =
    let seen = All-at (IsSeen c.loop-at.self.circuit c.loop-at.self.frames c.loop-at.events.children) _ _ _ c.pair-place.ensures c.loop-at.invariant.walk.seen in
    let light = light_next c.args.self.now c.loop-at.self c.args.events.now c.loop-at.events c.args.counter.now c.loop-at.counter c.count.new.counter c.args.root c.args.beside c.loop-at.table c.loop-at.ways.items c.loop-at.at _ c.pair-place.result c.loop-at.invariant.walk c.loop-at.invariant.exact
    c.circuit-circuit.result.now c.circuit-circuit.ensures c.keeps.ensures.sound c.keeps.ensures.depths c.keeps-in-loop-at-3.ensures c.keeps-in-loop-at-2.ensures c.pair-place.ensures seen.0 seen.1 (c.count.ensures.adds seen.0 seen.1) (c.in_ok-count.ensures.here seen.0 seen.1) c.in_ok-count.ensures.weighed in
    omega (arith, light, c.in_ok-count.ensures.weighed.small, c.loop-at.invariant.walk.few)

pub loop-at-smaller : goal.loop-at-smaller
loop-at-smaller c =
    let seen = All-at (IsSeen c.loop-at.self.circuit c.loop-at.self.frames c.loop-at.events.children) _ _ _ c.pair-place.ensures c.loop-at.invariant.walk.seen in
    let light = light_next c.args.self.now c.loop-at.self c.args.events.now c.loop-at.events c.args.counter.now c.loop-at.counter c.count.new.counter c.args.root c.args.beside c.loop-at.table c.loop-at.ways.items c.loop-at.at _ c.pair-place.result c.loop-at.invariant.walk c.loop-at.invariant.exact
    c.circuit-circuit.result.now c.circuit-circuit.ensures c.keeps.ensures.sound c.keeps.ensures.depths c.keeps-in-loop-at-3.ensures c.keeps-in-loop-at-2.ensures c.pair-place.ensures seen.0 seen.1 (c.count.ensures.adds seen.0 seen.1) (c.in_ok-count.ensures.here seen.0 seen.1) c.in_ok-count.ensures.weighed in
    let sound = sound_of c.loop-at.self.circuit c.circuit-circuit.result.now (c.circuit-circuit.ensures ∙ sym c.loop-at.invariant.walk.opened.circuit) c.keeps.ensures.sound in
    let some = weight_positive c.loop-at.self.circuit.net sound c.pair-place.result.1 in
    let k : 10000000 - (c.loop-at.at + 1) < 10000000 - c.loop-at.at = omega (arith, some, light, c.in_ok-count.ensures.weighed.small, c.loop-at.invariant.walk.passed) in
    k

pub loop-at-preserved : goal.loop-at-preserved
loop-at-preserved c =
    let seen = All-at (IsSeen c.loop-at.self.circuit c.loop-at.self.frames c.loop-at.events.children) _ _ _ c.pair-place.ensures c.loop-at.invariant.walk.seen in
    let light = light_next c.args.self.now c.loop-at.self c.args.events.now c.loop-at.events c.args.counter.now c.loop-at.counter c.count.new.counter c.args.root c.args.beside c.loop-at.table c.loop-at.ways.items c.loop-at.at _ c.pair-place.result c.loop-at.invariant.walk c.loop-at.invariant.exact
    c.circuit-circuit.result.now c.circuit-circuit.ensures c.keeps.ensures.sound c.keeps.ensures.depths c.keeps-in-loop-at-3.ensures c.keeps-in-loop-at-2.ensures c.pair-place.ensures seen.0 seen.1 (c.count.ensures.adds seen.0 seen.1) (c.in_ok-count.ensures.here seen.0 seen.1) c.in_ok-count.ensures.weighed in
    let sound = sound_of c.loop-at.self.circuit c.circuit-circuit.result.now (c.circuit-circuit.ensures ∙ sym c.loop-at.invariant.walk.opened.circuit) c.keeps.ensures.sound in
    let some = weight_positive c.loop-at.self.circuit.net sound c.pair-place.result.1 in
    let more = walk_more c.args.self.now c.loop-at.self c.expand.new.self c.args.events.now c.loop-at.events c.expand.new.events c.args.root c.args.beside c.loop-at.table c.expand.new.table c.loop-at.ways.items c.loop-at.at (places_weight c.loop-at.self.circuit.net (take c.loop-at.at c.loop-at.table))
    (weight_at c.loop-at.self.circuit.net c.pair-place.result.1) _ (5 * c.count.new.counter.weight) c.pair-place.result c.in_ok-next.next c.loop-at.invariant.walk c.pair-place.ensures c.expand.ensures.step.opened c.expand.ensures.step.seen (c.expand.ensures.step.own c.args.root.0 c.args.beside.0)
    c.in_ok-next.ensures.expanded c.expand.ensures.few some light refl in
    record {
      walk = subst (λ (o : List Ways). IsWalk c.args.self.now c.expand.new.self c.args.events.now c.expand.new.events c.args.root c.args.beside c.expand.new.table o (c.loop-at.at + 1) (places_weight c.expand.new.self.circuit.net (take (c.loop-at.at + 1) c.expand.new.table)) (5 * c.count.new.counter.weight))
          (sym {A = List Ways} c.in_ok-push.ensures.items)
          (subst (λ (m : ℕ). IsWalk c.args.self.now c.expand.new.self c.args.events.now c.expand.new.events c.args.root c.args.beside c.expand.new.table (c.loop-at.ways.items ++ c.in_ok-next.next ∷ []) (c.loop-at.at + 1) m (5 * c.count.new.counter.weight)) (sym more.weighs) more);
      exact = exact_more c.args.self.now c.loop-at.self c.expand.new.self c.args.events.now c.loop-at.events c.expand.new.events c.args.counter.now c.loop-at.counter c.count.new.counter c.args.root c.args.beside c.loop-at.table c.expand.new.table c.loop-at.at c.pair-place.result seen.0
          c.keeps-in-loop-at.ensures.events.is_tree c.loop-at.invariant.exact c.loop-at.invariant.walk.opened.circuit c.pair-place.ensures seen.3 seen.1 c.expand.ensures.step.opened
          (adds_weaker (IsSeen c.expand.new.self.circuit c.expand.new.self.frames c.expand.new.events.children) (λ (q : ℕ × ℕ). Unit {0}) c.loop-at.table c.expand.new.table (λ q s. tt) c.expand.ensures.step.seen)
          (c.count.ensures.adds seen.0 seen.1) (c.in_ok-count.ensures.here seen.0 seen.1) (subst (λ (e : EventCircuitView). IsWeighed e.net c.count.new.counter) c.loop-at.invariant.walk.opened.circuit c.in_ok-count.ensures.weighed) c.in_ok-next.ensures.within c.expand.ensures.step.visits;
    }

pub overflow_add-at : goal.overflow_add-at
overflow_add-at c = omega (arith, c.loop-at.invariant.walk.passed, c.loop-at.invariant.walk.small, c.loop-at.invariant.exact.weighed.small)

pub returns-clause-walked : goal.returns-clause-walked
returns-clause-walked c = (c.loop-at.at, places_weight c.loop-at.self.circuit.net (take c.loop-at.at c.loop-at.table), c.loop-at.invariant.walk, c.loop-at.invariant.exact, omega (arith, c.loop-at-test.false, c.len.ensures))

pub returns-clause-counting : goal.returns-clause-counting
returns-clause-counting c = c.loop-at.invariant.exact.counting

pub returns-in_err-add-2-clause-counting : goal.returns-in_err-add-2-clause-counting
returns-in_err-add-2-clause-counting c = λ s root. record { more = adds_none (λ (q : ℕ × ℕ). Unit {0}) c.args.events.now.children c.args.events.now.children refl; nodes = nodes_none c.args.self.now.circuit c.args.events.now.children s; counted = λ starts there all. all }

pub returns-in_err-add-clause-counting : goal.returns-in_err-add-clause-counting
returns-in_err-add-clause-counting c = λ s root. record { more = adds_none (λ (q : ℕ × ℕ). Unit {0}) c.args.events.now.children c.args.events.now.children refl; nodes = nodes_none c.args.self.now.circuit c.args.events.now.children s; counted = λ starts there all. all }

pub returns-in_err-count-clause-counting : goal.returns-in_err-count-clause-counting
returns-in_err-count-clause-counting c = λ s root. let seen = All-at (IsSeen c.loop-at.self.circuit c.loop-at.self.frames c.loop-at.events.children) _ _ _ c.pair-place.ensures c.loop-at.invariant.walk.seen in
    (counting_more c.args.self.now.circuit c.loop-at.self.frames s c.args.events.now.children c.loop-at.events.children c.args.counter.now c.loop-at.counter c.count.new.counter c.pair-place.result seen.0 (c.loop-at.invariant.exact.counting s root)
    (subst (λ (e : EventCircuitView). IsVisitedPlace e c.loop-at.self.frames c.loop-at.events.children s c.pair-place.result) c.loop-at.invariant.walk.opened.circuit (All-at (IsVisitedPlace c.loop-at.self.circuit c.loop-at.self.frames c.loop-at.events.children s) _ _ _ c.pair-place.ensures (c.loop-at.invariant.exact.visits s root)))
    (subst (λ (e : EventCircuitView). c.pair-place.result.1 < length e.net.drivers) c.loop-at.invariant.walk.opened.circuit seen.3) seen.1 (c.count.ensures.adds seen.0 seen.1))

pub returns-in_err-next-clause-counting : goal.returns-in_err-next-clause-counting
returns-in_err-next-clause-counting c = λ s root. let seen = All-at (IsSeen c.loop-at.self.circuit c.loop-at.self.frames c.loop-at.events.children) _ _ _ c.pair-place.ensures c.loop-at.invariant.walk.seen in
    counting_on c.loop-at.events c.expand.new.events c.expand.ensures.step.opened.grows c.args.self.now.circuit s c.args.events.now.children c.args.counter.now c.count.new.counter c.keeps-in-loop-at.ensures.events.is_tree
    (counting_more c.args.self.now.circuit c.loop-at.self.frames s c.args.events.now.children c.loop-at.events.children c.args.counter.now c.loop-at.counter c.count.new.counter c.pair-place.result seen.0 (c.loop-at.invariant.exact.counting s root)
    (subst (λ (e : EventCircuitView). IsVisitedPlace e c.loop-at.self.frames c.loop-at.events.children s c.pair-place.result) c.loop-at.invariant.walk.opened.circuit (All-at (IsVisitedPlace c.loop-at.self.circuit c.loop-at.self.frames c.loop-at.events.children s) _ _ _ c.pair-place.ensures (c.loop-at.invariant.exact.visits s root)))
    (subst (λ (e : EventCircuitView). c.pair-place.result.1 < length e.net.drivers) c.loop-at.invariant.walk.opened.circuit seen.3) seen.1 (c.count.ensures.adds seen.0 seen.1))
    (subst (λ (e : EventCircuitView). AreNodesFrom e c.expand.new.events.children s (length c.loop-at.events.children)) c.loop-at.invariant.walk.opened.circuit
    (c.expand.ensures.step.visits s (All-at (IsVisitedPlace c.loop-at.self.circuit c.loop-at.self.frames c.loop-at.events.children s) _ _ _ c.pair-place.ensures (c.loop-at.invariant.exact.visits s root))).1)

pub returns-in_err-push-clause-counting : goal.returns-in_err-push-clause-counting
returns-in_err-push-clause-counting c = λ s root. let seen = All-at (IsSeen c.loop-at.self.circuit c.loop-at.self.frames c.loop-at.events.children) _ _ _ c.pair-place.ensures c.loop-at.invariant.walk.seen in
    counting_on c.loop-at.events c.expand.new.events c.expand.ensures.step.opened.grows c.args.self.now.circuit s c.args.events.now.children c.args.counter.now c.count.new.counter c.keeps-in-loop-at.ensures.events.is_tree
    (counting_more c.args.self.now.circuit c.loop-at.self.frames s c.args.events.now.children c.loop-at.events.children c.args.counter.now c.loop-at.counter c.count.new.counter c.pair-place.result seen.0 (c.loop-at.invariant.exact.counting s root)
    (subst (λ (e : EventCircuitView). IsVisitedPlace e c.loop-at.self.frames c.loop-at.events.children s c.pair-place.result) c.loop-at.invariant.walk.opened.circuit (All-at (IsVisitedPlace c.loop-at.self.circuit c.loop-at.self.frames c.loop-at.events.children s) _ _ _ c.pair-place.ensures (c.loop-at.invariant.exact.visits s root)))
    (subst (λ (e : EventCircuitView). c.pair-place.result.1 < length e.net.drivers) c.loop-at.invariant.walk.opened.circuit seen.3) seen.1 (c.count.ensures.adds seen.0 seen.1))
    (subst (λ (e : EventCircuitView). AreNodesFrom e c.expand.new.events.children s (length c.loop-at.events.children)) c.loop-at.invariant.walk.opened.circuit
    (c.expand.ensures.step.visits s (All-at (IsVisitedPlace c.loop-at.self.circuit c.loop-at.self.frames c.loop-at.events.children s) _ _ _ c.pair-place.ensures (c.loop-at.invariant.exact.visits s root))).1)

pub returns-clause-grows : goal.returns-clause-grows
returns-clause-grows c = c.loop-at.invariant.walk.opened.grows

pub returns-in_err-add-clause-grows : goal.returns-in_err-add-clause-grows
returns-in_err-add-clause-grows c = grows_refl c.args.events.now

pub returns-in_err-add-2-clause-grows : goal.returns-in_err-add-2-clause-grows
returns-in_err-add-2-clause-grows c = grows_refl c.args.events.now

pub returns-in_err-count-clause-grows : goal.returns-in_err-count-clause-grows
returns-in_err-count-clause-grows c = c.loop-at.invariant.walk.opened.grows

pub returns-in_err-next-clause-grows : goal.returns-in_err-next-clause-grows
returns-in_err-next-clause-grows c = grows_trans c.args.events.now c.loop-at.events c.expand.new.events c.loop-at.invariant.walk.opened.grows c.expand.ensures.step.opened.grows

pub returns-in_err-push-clause-grows : goal.returns-in_err-push-clause-grows
returns-in_err-push-clause-grows c = grows_trans c.args.events.now c.loop-at.events c.expand.new.events c.loop-at.invariant.walk.opened.grows c.expand.ensures.step.opened.grows

pub returns-clause-refused : goal.returns-clause-refused
returns-clause-refused c = refused_ok _ _ _ _

pub add-requires : goal.add-requires
add-requires c = omega (arith, ap length c.new-table.ensures)

pub add-requires-2 : goal.add-requires-2
add-requires-2 c = omega (arith, ap length c.new-table.ensures, c.add.ensures.few)

pub pair-place-requires : goal.pair-place-requires
pair-place-requires c = omega (arith, c.loop-at-test.true, c.len.ensures)

pub returns-in_err-count-clause-refused : goal.returns-in_err-count-clause-refused
returns-in_err-count-clause-refused c =
    let p = err_from_is_err_and c.from_residual-in_err-count.result c.from_residual-in_err-count.ensures.1 in
    rw (p.1, p.2) (refused_on c.args.self.now.circuit.net c.loop-at.events.children c.count.new.counter.places c.in_err-count.field-0.0 (λ is. absurd (c.in_err-count.ensures.many is))
    (λ is. subst (λ (e : EventCircuitView). 2000000 < places_weight e.net c.count.new.counter.places) c.loop-at.invariant.walk.opened.circuit (c.in_err-count.ensures.large is)))

pub returns-in_err-next-clause-refused : goal.returns-in_err-next-clause-refused
returns-in_err-next-clause-refused c =
    let p = err_from_is_err_and c.from_residual-in_err-next.result c.from_residual-in_err-next.ensures.1 in
    rw (p.1, p.2) (refused_on c.args.self.now.circuit.net c.expand.new.events.children c.count.new.counter.places c.in_err-next.field-0.0 c.in_err-next.ensures.many (λ is. absurd (c.in_err-next.ensures.large is)))

pub returns-in_err-push-clause-refused : goal.returns-in_err-push-clause-refused
returns-in_err-push-clause-refused c =
    let p = err_from_is_err_and c.from_residual-in_err-push.result c.from_residual-in_err-push.ensures.1 in
    rw (p.1, p.2) (refused_memory c.args.self.now.circuit.net c.expand.new.events.children c.count.new.counter.places)

pub returns-in_err-add-2-clause-refused : goal.returns-in_err-add-2-clause-refused
returns-in_err-add-2-clause-refused c =
    let p = err_from_is_err_and c.from_residual-in_err-add-2.result c.from_residual-in_err-add-2.ensures.1 in
    rw (p.1, p.2) (refused_memory c.args.self.now.circuit.net c.args.events.now.children c.args.counter.now.places)

pub returns-in_err-add-clause-refused : goal.returns-in_err-add-clause-refused
returns-in_err-add-clause-refused c =
    let p = err_from_is_err_and c.from_residual.result c.from_residual.ensures.1 in
    rw (p.1, p.2) (refused_memory c.args.self.now.circuit.net c.args.events.now.children c.args.counter.now.places)
