-- A start is visited by an unfolder that has met nothing.
use Rattle.std.proofs.Common.{◌≡◌, ◌+◌, ◌^◌, ◌<◌, ℕ, List, [], length, sym, ap, subst, arith}
use Rattle.std.proofs.lemmas.List.Elements.{All-weaker}
use Rattle.circuit_theory.specs.EventSizes.{Start}
use Rattle.event_nodes.specs.Nodes.{EventGraphView, IsTree, GrowsEvents}
use Rattle.event_nodes.specs.View.{EventCircuitView}
use Rattle.event_nodes.specs.Visited.{CounterView, IsVisitedPair, AreNodesFrom}
use Rattle.event_nodes.proofs.Lists.{adds_trans}
use Rattle.event_classes.proofs.event_functions.event_reach.Making.{nodes_since}
use Rattle.edbf_unfold.specs.event_literals.event_walk.Walk.{IsCounting}
use Rattle.edbf_unfold.specs.event_literals.Known.{EventUnfolderView, AreKnown}
use Rattle.edbf_unfold.specs.event_literals.Built.{IsReadyFor}
use Rattle.event_classes.proofs.event_functions.Totaling.{nothing, pair_later}

module _ (u : EventUnfolderView) (e : EventCircuitView) (begins : u ≡ record { circuit = e; frames = []; memo = [] }) where
  pub fresh_circuit : u.circuit ≡ e
  fresh_circuit = ap (λ (v : EventUnfolderView). v.circuit) begins

  pub fresh_known : (w : EventGraphView) → AreKnown e w [] [] → AreKnown u.circuit w u.frames u.memo
  fresh_known w known = subst (λ (v : EventUnfolderView). AreKnown v.circuit w v.frames v.memo) (sym begins) known

  pub fresh_ready : (w : EventGraphView) (c : CounterView) → c ≡ nothing → length w.graph + 30000002 < 2 ^ 30 → length w.places + 30000002 < 2 ^ 31 → length w.children < 10000 → IsReadyFor u w c
  fresh_ready w c none nodes places few =
      subst (λ (v : EventUnfolderView). IsReadyFor v w c) (sym begins)
      (subst (λ (d : CounterView). IsReadyFor (record { circuit = e; frames = []; memo = [] }) w d) (sym none)
      (record { has = record { frames = omega arith; nodes = nodes; places = places }; weighed = record { sum = omega arith; small = omega arith; few = omega arith }; few = few }))

-- what was counted and made, and then made on
pub counting_on : (e : EventCircuitView) (x : Start ℕ) (old : List (ℕ × ℕ)) (mid new : EventGraphView) (c d : CounterView) → IsTree mid.children → GrowsEvents mid new → IsCounting e x old mid.children c d → AreNodesFrom e new.children x (length mid.children) → IsCounting e x old new.children c d
counting_on e x old mid new c d tree grows k made = record {
  more = adds_trans (λ (q : ℕ × ℕ). Unit {0}) old mid.children new.children k.more (record { more = grows.children.0; is = grows.children.1; each = λ i q h. tt });
  nodes = nodes_since e x mid new grows (length old) tree k.nodes made;
  counted = λ starts h before. All-weaker (IsVisitedPair e mid.children starts) (IsVisitedPair e new.children starts) (λ p q. pair_later e mid.children new.children (record { more = grows.children.0; is = grows.children.1; each = λ i r s. tt }) starts p q) d.places (k.counted starts h before);
}
