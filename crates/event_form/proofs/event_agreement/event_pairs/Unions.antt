-- What is reached from the latches of two starts.
use Rattle.std.proofs.Common.{◌≡◌, ℕ, ◌≤◌, List, [], ◌∷◌, length, inl, inr}
use Rattle.std.specs.Prelude.{◌⊎◌, ◌↔◌, Contains}
use Rattle.circuit_theory.specs.Run.{IsEnabled}
use Rattle.circuit_theory.specs.Frame.{EventSide, ReachedAt, IsNode, ConeLatches}
use Rattle.event_nodes.specs.Nodes.{path_of}
use Rattle.event_form.specs.event_agreement.event_pairs.Functions.{AreNodesOf}
use Rattle.event_form.specs.event_agreement.event_pairs.Laws.{PairNodesAreNodes}

module _ {P : Type 0} (s : EventSide P) (enabled : P → Type 0) where
  pub reached_by : (S T : P → Type 0) → ((v : P) → S v → T v) → (node : List ℕ) (v : P) → ReachedAt s enabled S node v → ReachedAt s enabled T node v
  reached_by S T to [] v r = to v r
  reached_by S T to (k ∷ node) v r = (r.0, reached_by S T to node r.0 r.1, r.2, r.3)

  pub node_by : (S T : P → Type 0) → ((v : P) → S v → T v) → (node : List ℕ) → IsNode s enabled S node → IsNode s enabled T node
  node_by S T to [] h = tt
  node_by S T to (k ∷ node) h = (h.0, reached_by S T to node h.0 h.1, h.2)

  module _ (S T : P → Type 0) where
    reached_one : (node : List ℕ) (v : P) → ReachedAt s enabled (λ u. S u ⊎ T u) node v → ReachedAt s enabled S node v ⊎ ReachedAt s enabled T node v
    reached_one [] v r = r
    reached_one (k ∷ node) v r = go (reached_one node r.0 r.1)
      where
        go : ReachedAt s enabled S node r.0 ⊎ ReachedAt s enabled T node r.0 → ReachedAt s enabled S (k ∷ node) v ⊎ ReachedAt s enabled T (k ∷ node) v
        go (inl h) = inl (r.0, h, r.2, r.3)
        go (inr h) = inr (r.0, h, r.2, r.3)

    pub node_one : (node : List ℕ) → IsNode s enabled (λ u. S u ⊎ T u) node → IsNode s enabled S node ⊎ IsNode s enabled T node
    node_one [] h = inl tt
    node_one (k ∷ node) h = go (reached_one node h.0 h.1)
      where
        go : ReachedAt s enabled S node h.0 ⊎ ReachedAt s enabled T node h.0 → IsNode s enabled S (k ∷ node) ⊎ IsNode s enabled T (k ∷ node)
        go (inl r) = inl (h.0, r, h.2)
        go (inr r) = inr (h.0, r, h.2)

module _ {P : Type 0} (s : EventSide P) (S T : P → Type 0) (children : List (ℕ × ℕ)) (left right both : List ℕ) (l : AreNodesOf s S children left) (r : AreNodesOf s T children right) (same : (k : ℕ) → Contains both k ↔ (Contains left k ⊎ Contains right k)) where
  abbrev E : P → Type 0
  E = IsEnabled s.circuit

  to_union : (k : ℕ) → Contains left k ⊎ Contains right k → (k ≤ length children) × IsNode s E (λ u. S u ⊎ T u) (path_of children k)
  to_union k (inl h) = let n = (l.exactly k).0 h in (n.0, node_by s E S (λ u. S u ⊎ T u) (λ v x. inl x) (path_of children k) n.1)
  to_union k (inr h) = let n = (r.exactly k).0 h in (n.0, node_by s E T (λ u. S u ⊎ T u) (λ v x. inr x) (path_of children k) n.1)

  from_union : (k : ℕ) → k ≤ length children → IsNode s E S (path_of children k) ⊎ IsNode s E T (path_of children k) → Contains left k ⊎ Contains right k
  from_union k within (inl n) = inl ((l.exactly k).1 (within, n))
  from_union k within (inr n) = inr ((r.exactly k).1 (within, n))

  made_one : (path : List ℕ) → IsNode s E S path ⊎ IsNode s E T path → (k : ℕ) × (k ≤ length children) × (path_of children k ≡ path)
  made_one path (inl n) = l.made path n
  made_one path (inr n) = r.made path n

  pub union_nodes : AreNodesOf s (λ u. S u ⊎ T u) children both
  union_nodes = record {
    exactly = λ k. (
      λ h. to_union k ((same k).0 h),
      λ h. (same k).1 (from_union k h.0 (node_one s E S T (path_of children k) h.1)),
    );
    made = λ path h. made_one path (node_one s E S T path h);
  }

pub pair_nodes : PairNodesAreNodes
pair_nodes s children p q left right both l r same = union_nodes s (ConeLatches s.circuit p) (ConeLatches s.circuit q) children left right both l r same
