-- The event nodes that are made from a latch's child on are reached, and where each latch that is reached has its child, all are made.
use Rattle.std.proofs.Common.{◌≡◌, ◌∙◌, ◌+◌, ◌<◌, ◌≤◌, ℕ, List, [], ◌∷◌, length, slice_get, Some, refl, sym, ap, subst, arith, inl, inr}
use Rattle.std.specs.Prelude.{◌⊎◌}
use Rattle.std.specs.List.{All}
use Rattle.std.proofs.lemmas.Bool.{cases_lt}
use Rattle.std.proofs.lemmas.List.Elements.{All-contains}
use Rattle.std.proofs.lemmas.Option.{slice_get_within}
use Rattle.circuit_theory.proofs.Lists.{Contains-cases}
use Rattle.circuit_theory.specs.EventSizes.{Start, IsOther}
use Rattle.circuit_theory.specs.EventTotals.{StartLatches}
use Rattle.circuit_theory.specs.Frame.{ConeLatches, IsNode, ReachedAt}
use Rattle.event_nodes.specs.flat_net.View.{circuit_of}
use Rattle.event_nodes.proofs.flat_net.Nets.{some_at}
use Rattle.event_nodes.proofs.flat_net.Places.{one_at}
use Rattle.event_nodes.specs.Adds.{Adds}
use Rattle.event_nodes.specs.Nodes.{EventGraphView, IsTree, GrowsEvents, path_of}
use Rattle.event_nodes.specs.Reach.{IsBegun, IsReachedPlace, AreReachedPlaces}
use Rattle.event_classes.specs.event_functions.event_reach.Made.{HasChild}
use Rattle.event_nodes.specs.View.{EventCircuitView, side_of, Enabled}
use Rattle.event_nodes.specs.Visited.{AreNodesFrom, HoldsNodes}
use Rattle.event_nodes.proofs.Lists.{adds_at, adds_cases}
use Rattle.event_nodes.proofs.Paths.{path_grows, child_path}
use Rattle.event_classes.proofs.event_functions.event_reach.Reaching.{child_later}

pub no_nodes : (e : EventCircuitView) (children : List (ℕ × ℕ)) (x : Start ℕ) → AreNodesFrom e children x (length children)
no_nodes e children x k n class from at = absurd (let inside = slice_get_within children k (n, class) at in omega (arith, inside, from))

-- a node keeps its path
pub path_kept : (w x : EventGraphView) → GrowsEvents w x → (n : ℕ) → n ≤ length w.children → path_of x.children n ≡ path_of w.children n
path_kept w x grows n inside = ap (λ (es : List (ℕ × ℕ)). path_of es n) grows.children.1 ∙ path_grows w.children grows.children.0 n inside

module _ (e : EventCircuitView) (x : Start ℕ) where
  begun_from : (v : ℕ) → StartLatches (side_of e) (x ∷ []) v → IsBegun (circuit_of e.net) x v
  begun_from v h = elim (Contains-cases x h.0 [] h.1) [ inl same ↦ subst (λ (z : Start ℕ). ConeLatches (circuit_of e.net) z.place v × IsOther z.left_out v) (sym same) (h.2, h.3) | inr none ↦ absurd (omega (arith, none.1)) ]

  begun_to : (v : ℕ) → IsBegun (circuit_of e.net) x v → StartLatches (side_of e) (x ∷ []) v
  begun_to v h = (x, (0, omega arith, refl), h.0, h.1)

  reached_from : (S T : ℕ → Type 0) → ((v : ℕ) → S v → T v) → (node : List ℕ) (v : ℕ) → ReachedAt (side_of e) (Enabled e) S node v → ReachedAt (side_of e) (Enabled e) T node v
  reached_from S T to [] v r = to v r
  reached_from S T to (k ∷ node) v r = (r.0, reached_from S T to node r.0 r.1, r.2, r.3)

  -- the nodes so far and those that were made since
  pub nodes_since : (w v : EventGraphView) → GrowsEvents w v → (first : ℕ) → IsTree w.children → AreNodesFrom e w.children x first → AreNodesFrom e v.children x (length w.children) → AreNodesFrom e v.children x first
  nodes_since w v grows first tree before after k n class from at = go (cases_lt k (length w.children))
    where
      go : (k < length w.children) ⊎ (length w.children ≤ k) → IsNode (side_of e) (Enabled e) (StartLatches (side_of e) (x ∷ [])) (class ∷ path_of v.children n)
      go (inl l) =
          let was = some_at w.children k l in
          let there : slice_get v.children k ≡ Some was.0 = adds_at (λ (q : ℕ × ℕ). Unit {0}) w.children v.children k was.0 (record { more = grows.children.0; is = grows.children.1; each = λ i d h. tt }) was.1 in
          let same : was.0 ≡ (n, class) = one_at v.children k was.0 (n, class) there at in
          let own : slice_get w.children k ≡ Some (n, class) = was.1 ∙ ap Some same in
          let below = tree k n class own in
          subst (λ (m : List ℕ). IsNode (side_of e) (Enabled e) (StartLatches (side_of e) (x ∷ [])) (class ∷ m)) (sym (path_kept w v grows n (omega (arith, below, l)))) (before k n class from own)
      go (inr l) = after k n class l at

  -- the child of a latch that is reached
  pub child_made : (w v : EventGraphView) → GrowsEvents w v → (p : ℕ × ℕ) (class : ℕ) → (side_of e).class p.1 ≡ class → IsReachedPlace e w.children x p → Adds (λ q. q ≡ (p.0, class)) w.children v.children → AreNodesFrom e v.children x (length w.children)
  child_made w v grows p class class_is reached adds k n c from at = go (adds_cases (λ (q : ℕ × ℕ). q ≡ (p.0, class)) w.children v.children k (n, c) adds at)
    where
      here : IsNode (side_of e) (Enabled e) (StartLatches (side_of e) (x ∷ [])) (class ∷ path_of v.children p.0)
      here =
          subst (λ (m : List ℕ). IsNode (side_of e) (Enabled e) (StartLatches (side_of e) (x ∷ [])) (class ∷ m)) (sym (path_kept w v grows p.0 reached.node))
          (p.1, reached_from (IsBegun (circuit_of e.net) x) (StartLatches (side_of e) (x ∷ [])) begun_to (path_of w.children p.0) p.1 reached.reached, class_is)

      go : (slice_get w.children k ≡ Some (n, c)) ⊎ ((length w.children ≤ k) × ◌≡◌ {A = ℕ × ℕ} (n, c) (p.0, class)) → IsNode (side_of e) (Enabled e) (StartLatches (side_of e) (x ∷ [])) (c ∷ path_of v.children n)
      go (inl old) = absurd (let inside = slice_get_within w.children k (n, c) old in omega (arith, inside, from))
      go (inr new) = subst (λ (q : ℕ × ℕ). IsNode (side_of e) (Enabled e) (StartLatches (side_of e) (x ∷ [])) (q.1 ∷ path_of v.children q.0)) (sym new.1) here

  -- where all latches that are reached have their children, all nodes that are reached were made
  pub all_made : (children table : List (ℕ × ℕ)) → IsTree children → AreReachedPlaces e children x table → All (HasChild e children) table → HoldsNodes e children x
  all_made children table tree are made [] h = (0, omega arith, path_grows [] children 0 (omega arith))
  all_made children table tree are made (k ∷ node) h =
      let r = reached_from (StartLatches (side_of e) (x ∷ [])) (IsBegun (circuit_of e.net) x) begun_from node h.0 h.1 in
      let l = are.all node h.0 r in
      let c = All-contains (HasChild e children) table (l.node, h.0) made l.listed in
      let inside = slice_get_within children c.1.0 (l.node, (side_of e).class h.0) c.1.2 in
      (c.0, omega (arith, inside, c.1.1), child_path children tree l.node ((side_of e).class h.0) c.0 c.1 ∙ (ap (λ (n : List ℕ). (side_of e).class h.0 ∷ n) l.path_is ∙ ap (λ (j : ℕ). j ∷ node) h.2))

module _ (e : EventCircuitView) (w v : EventGraphView) (grows : GrowsEvents w v) where
  -- the first places have their children, and one place more
  pub children_next : (old new : List (ℕ × ℕ)) (at : ℕ) (p : ℕ × ℕ) → slice_get old at ≡ Some p → Adds (λ q. q ≡ q) old new → ((i : ℕ) (q : ℕ × ℕ) → i < at → slice_get old i ≡ Some q → HasChild e w.children q) → HasChild e v.children p →
      (i : ℕ) (q : ℕ × ℕ) → i < at + 1 → slice_get new i ≡ Some q → HasChild e v.children q
  children_next old new at p here adds before own i q below place = go (cases_lt i at)
    where
      go : (i < at) ⊎ (at ≤ i) → HasChild e v.children q
      go (inl l) =
          let early = slice_get_within old at p here in
          let was = some_at old i (omega (arith, l, early)) in
          let same : was.0 ≡ q = one_at new i was.0 q (adds_at (λ (r : ℕ × ℕ). r ≡ r) old new i was.0 adds was.1) place in
          let m = before i q l (was.1 ∙ ap Some same) in
          (m.0, child_later w v grows q.0 ((side_of e).class q.1) m.0 m.1)
      go (inr l) =
          let last : i ≡ at = omega (arith, l, below) in
          subst (HasChild e v.children) (one_at new at p q (adds_at (λ (r : ℕ × ℕ). r ≡ r) old new at p adds here) (subst (λ (k : ℕ). slice_get new k ≡ Some q) last place)) own
