-- The latches behind a signal that leads back to a cycle, the removed ones, and the one with the least name.
use Rattle.std.proofs.Common.{◌≡◌, ◌≢◌, ℕ, ◌+◌, ◌<◌, Bool, true, false, List, length, Option, Some, sym, ◌∙◌, ap, subst, arith, inl, inr, get_or}
use Rattle.std.specs.Prelude.{◌⊎◌, slice_get, if◌then◌else◌}
use Rattle.std.proofs.Math.ListN.{set}
use Rattle.std.proofs.lemmas.Option.{slice_get_within, slice_get-get_or, get_or_from_slice_get}
use Rattle.signal_graph.specs.flat_net.Signal.{Signal}
use Rattle.signal_graph.specs.flat_net.LatchAt.{LatchAt}
use Rattle.signal_graph.specs.flat_net.Cut.{no_latch}
use Rattle.signal_graph.proofs.flat_net.Places.{one_at}
use Rattle.signal_graph.proofs.flat_net.Nets.{latch_stands}
use Rattle.signal_graph.specs.flat_net.View.{NetView, circuit_of}
use Rattle.circuit_theory.specs.Circuit.{Circuit, IsSource, Reads, Reaches}
use Rattle.circuit_theory.specs.Names.{ListBefore}
use Rattle.circuit_theory.proofs.Sums.{same_or_not}
use Rattle.signal_graph.specs.declared.nodes.Node.{Node}
use Rattle.latch_graph.specs.declared.states.State.{State}
use Rattle.latch_graph.specs.declared.states.State.TheVariants.{New, Endless, Removed}
use Rattle.signal_graph.specs.Graph.{GraphView, IsGraphOf, AreNodes}
use Rattle.signal_graph.specs.inner_cone.latch_cone.Cones.{IsMarkedBy}
use Rattle.latch_graph.specs.Settling.{ReadsEndless, IsTable, SameRemoved}
use Rattle.latch_graph.specs.Rounds.{latch_in, IsEndless, TakesOver, AreRemoved}
use Rattle.signal_graph.proofs.Lists.{set_same, set_other, set_cases}
use Rattle.signal_graph.proofs.Driving.{Driven, driven, none_some, read_taken}
use Rattle.latch_graph.proofs.Before.{before_self, before_after}
use Rattle.latch_graph.proofs.Turns.{IsWithout}

pub reach_more : {c : Circuit ℕ} {p q r : ℕ} → Reaches c p q → Reads c q r → Reaches c p r
reach_more Reaches.here reads = Reaches.there reads Reaches.here
reach_more (Reaches.there first rest) reads = Reaches.there first (reach_more rest reads)

-- the latch of an endless signal
pub endless_latch : (nodes : List Node) (latches : List LatchAt) (states : List State) → AreNodes nodes latches → (s j : ℕ) (node : Node) → slice_get nodes s ≡ Some node → node.latch ≡ Some j → slice_get states s ≡ Some Endless →
    IsEndless latches states j × ((latch_in latches j).out.0 ≡ s)
endless_latch nodes latches states are s j node at named h =
    let l = are.latch s j node at named in
    let same : latch_in latches j ≡ l.0 = get_or_from_slice_get latches j l.0 no_latch l.1 in
    let out : (latch_in latches j).out.0 ≡ s = ap (λ (z : LatchAt). z.out.0) same ∙ l.2 in
    (record { within = slice_get_within latches j l.0 l.1; endless = subst (λ z. slice_get states z ≡ Some Endless) (sym out) h }, out)

-- an endless latch reads what is endless
pub record IsEndlessNode (nodes : List Node) (states : List State) (s j : ℕ) : Type 0 where
  pub node : Node
  pub here : slice_get nodes s ≡ Some node
  pub named : node.latch ≡ Some j
  pub reads : ReadsEndless states node

pub endless_node : (nodes : List Node) (latches : List LatchAt) (states : List State) → AreNodes nodes latches → IsTable nodes states → (j : ℕ) → IsEndless latches states j → IsEndlessNode nodes states (latch_in latches j).out.0 j
endless_node nodes latches states are table j e =
    let at = slice_get-get_or latches j no_latch e.within in
    let node = are.out j (latch_in latches j) at in
    record { node = node.0; here = node.1; named = node.2; reads = table.right (latch_in latches j).out.0 node.0 Endless node.1 e.endless }

abbrev graph_of : List Node → List LatchAt → List Bool → GraphView
graph_of nodes latches bits = record { nodes = nodes; latches = latches; skipped = bits }

-- a latch behind what an endless latch reads is one that it takes over
pub takes_over : (nodes : List Node) (latches : List LatchAt) (j k : ℕ) → j < length latches → k < length latches → (node : Node) → slice_get nodes (latch_in latches j).out.0 ≡ Some node → node.latch ≡ Some j → (i : ℕ) (r : Signal) → slice_get node.reads i ≡ Some r →
    ((n : NetView) (bits : List Bool) → IsGraphOf n (record { nodes = nodes; latches = latches; skipped = bits }) → Reaches (circuit_of n) r.0 (latch_in latches k).out.0) → TakesOver nodes latches j k
takes_over nodes latches j k inside other node here named i r at reached n bits of = go (driven n (graph_of nodes latches bits) of (latch_in latches j).out.0 node here)
  where
    in_net : (j : ℕ) → j < length latches → slice_get n.latches j ≡ Some (latch_in latches j)
    in_net j l = subst (λ (z : List LatchAt). slice_get z j ≡ Some (latch_in latches j)) of.latches (slice_get-get_or latches j no_latch l)

    source : IsSource (circuit_of n) (latch_in latches k).out.0
    source = inr ((latch_in latches k).name, (latch_in latches k).next.0, latch_stands n k (latch_in latches k) (in_net k other))

    some_one : (i j : ℕ) → ◌≡◌ {A = Option ℕ} (Some i) (Some j) → i ≡ j
    some_one i j e = cc

    go : Driven n bits (latch_in latches j).out.0 node → Reaches (circuit_of n) (latch_in latches j).next.0 (latch_in latches k).out.0 × (IsMarkedBy latches bits (latch_in latches j).out.0 → (latch_in latches j).out.0 ≢ (latch_in latches k).out.0)
    go (Driven.input is reads lone) = absurd (none_some j (sym lone ∙ named))
    go (Driven.gate gt stands reads lone below) = absurd (none_some j (sym lone ∙ named))
    go (Driven.latch m l place out is bit bit_is taken lone within) =
        let same : m ≡ j = some_one m j (sym lone ∙ named) in
        let one : l ≡ latch_in latches j = one_at n.latches j l (latch_in latches j) (subst (λ z. slice_get n.latches z ≡ Some l) same place) (in_net j inside) in
        subst (λ (z : LatchAt). Reaches (circuit_of n) z.next.0 (latch_in latches k).out.0 × (IsMarkedBy latches bits z.out.0 → z.out.0 ≢ (latch_in latches k).out.0)) one
        (read_taken n (graph_of nodes latches bits) of m l bit node.reads place bit_is taken i r at (latch_in latches k).out.0 source (reached n bits of))

-- the removed latches of a settled table
pub without_is : (latches : List LatchAt) (bits : List Bool) (first states : List State) → AreRemoved latches bits (length latches) first → SameRemoved first states → IsWithout latches bits states
without_is latches bits first states r same = record {
  were = λ s h. were s (r.from s Removed (same.were s h));
  marked = λ j l h b. same.stay l.out.0 (r.marked j l (slice_get_within latches j l h) h b);
}
  where
    were : (s : ℕ) → (Removed ≡ New) ⊎ ((Removed ≡ Removed) × (j : ℕ) × (l : LatchAt) × (slice_get latches j ≡ Some l) × (slice_get bits j ≡ Some true) × (l.out.0 ≡ s)) →
        (j : ℕ) × (l : LatchAt) × (slice_get latches j ≡ Some l) × (slice_get bits j ≡ Some true) × (l.out.0 ≡ s)
    were s (inl e) = absurd (differ e)
      where
        differ : Removed ≡ New → ⊥
        differ x = cc
    were s (inr x) = (x.1, x.2, x.3, x.4, x.5)

-- none of the first so many latches of the round has a name before that of the best
abbrev pub IsLeastBefore : List LatchAt → List ℕ → ℕ → ℕ → Type 0
IsLeastBefore latches round i best = (m j x : ℕ) → m < i → slice_get round m ≡ Some j → slice_get round best ≡ Some x → ListBefore (latch_in latches j).name (latch_in latches x).name → ⊥

pub least_same : (latches : List LatchAt) (round : List ℕ) (i best y z : ℕ) → IsLeastBefore latches round i best → slice_get round i ≡ Some y → slice_get round best ≡ Some z →
    (ListBefore (latch_in latches y).name (latch_in latches z).name → ⊥) → IsLeastBefore latches round (i + 1) best
least_same latches round i best y z least at there not m j x l h k before = go (same_or_not m i)
  where
    go : (m ≡ i) ⊎ (m ≢ i) → ⊥
    go (inr n) = least m j x (omega (arith, l, n)) h k before
    go (inl e) =
        let one : j ≡ y = one_at round i j y (subst (λ w. slice_get round w ≡ Some j) e h) at in
        let two : x ≡ z = one_at round best x z k there in
        not (subst (λ w. ListBefore (latch_in latches y).name (latch_in latches w).name) two (subst (λ w. ListBefore (latch_in latches w).name (latch_in latches x).name) one before))

pub least_more : (latches : List LatchAt) (round : List ℕ) (i best y z : ℕ) → IsLeastBefore latches round i best → slice_get round i ≡ Some y → slice_get round best ≡ Some z →
    ListBefore (latch_in latches y).name (latch_in latches z).name → IsLeastBefore latches round (i + 1) i
least_more latches round i best y z least at there first m j x l h k before = go (same_or_not m i)
  where
    two : x ≡ y
    two = one_at round i x y k at

    go : (m ≡ i) ⊎ (m ≢ i) → ⊥
    go (inr n) =
        least m j z (omega (arith, l, n)) h there
        (before_after (latch_in latches j).name (latch_in latches y).name (latch_in latches z).name (subst (λ w. ListBefore (latch_in latches j).name (latch_in latches w).name) two before) first)
    go (inl e) =
        let one : j ≡ y = one_at round i j y (subst (λ w. slice_get round w ≡ Some j) e h) at in
        before_self (latch_in latches y).name (subst (λ w. ListBefore (latch_in latches y).name (latch_in latches w).name) two (subst (λ w. ListBefore (latch_in latches w).name (latch_in latches x).name) one before))
