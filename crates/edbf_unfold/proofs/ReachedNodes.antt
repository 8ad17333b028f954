-- The nodes of a table of places, and what a start reaches.
use Rattle.std.proofs.Common.{◌≡◌, ◌+◌, ◌<◌, ◌≤◌, ℕ, List, [], ◌∷◌, ◌++◌, length, slice_get, Some, sym, subst, arith, inl, inr, eqb}
use Rattle.std.specs.Prelude.{◌⊎◌, IsPermutation}
use Rattle.std.specs.List.{Contains, dedup}
use Rattle.std.proofs.lemmas.Bool.{cases_lt}
use Rattle.std.proofs.lemmas.List.Elements.{Contains-append_left, Contains-push, Contains-push_cases}
use Rattle.std.proofs.lemmas.List.Kept.{Contains-dedup_nat, Contains-from_dedup}
use Rattle.std.proofs.lemmas.List.Sorted.{IsPermutation-sym, Contains-permutation}
use Rattle.std.proofs.lemmas.Option.{slice_get_within}
use Rattle.circuit_theory.proofs.Lists.{Contains-head, Contains-cases}
use Rattle.edbf_unfold.proofs.event_literals.Places.{one_at}
use Rattle.event_nodes.specs.View.{EventCircuitView}
use Rattle.edbf_unfold.specs.declared.event_literals.event_walk.frames.Frame.{Frame}
use Rattle.edbf_unfold.specs.declared.event_literals.event_walk.frames.Ways.{Ways}
use Rattle.edbf_unfold.specs.Reached.{IsOpenPlace, IsNodePut, AreNodesOf}

module _ (e : EventCircuitView) (frames : List Frame) (table : List (ℕ × ℕ)) (ways : List Ways) where
  -- a node of one of the first places
  abbrev pub FromFirst : ℕ → ℕ → Type 0
  FromFirst at k = (i : ℕ) × (p : ℕ × ℕ) × (g : Ways) × (f : Frame) × (i < at) × (slice_get table i ≡ Some p) × (slice_get ways i ≡ Some g) × IsOpenPlace e frames p × (slice_get frames g.onward ≡ Some f) × (f.node ≡ k)

  -- the nodes of the first places
  pub record NodesUpTo (at : ℕ) (nodes : List ℕ) : Type 0 where
    pub each : (k : ℕ) → Contains nodes k → (k ≡ 0) ⊎ FromFirst at k
    pub root : Contains nodes 0
    pub all : (i : ℕ) (p : ℕ × ℕ) (g : Ways) (f : Frame) → i < at → slice_get table i ≡ Some p → slice_get ways i ≡ Some g → IsOpenPlace e frames p → slice_get frames g.onward ≡ Some f → Contains nodes f.node

  pub nodes_first : (nodes : List ℕ) → nodes ≡ 0 ∷ [] → NodesUpTo 0 nodes
  nodes_first nodes is = subst (NodesUpTo 0) (sym is) (record {
    each = λ k h. elim (Contains-cases 0 k [] h) [ inl same ↦ inl (sym same) | inr none ↦ absurd (omega (arith, none.1)) ];
    root = Contains-head 0 [];
    all = λ i p g f below. absurd (omega (arith, below));
  })

  later : (at k : ℕ) → FromFirst at k → FromFirst (at + 1) k
  later at k h = (h.0, h.1, h.2, h.3, omega (arith, h.4), h.5, h.6, h.7, h.8, h.9)

  pub nodes_next : (at : ℕ) (p : ℕ × ℕ) (g : Ways) (old new : List ℕ) → slice_get table at ≡ Some p → slice_get ways at ≡ Some g → NodesUpTo at old → IsNodePut e frames p g old new → NodesUpTo (at + 1) new
  nodes_next at p g old new here over k put = go put
    where
      go : IsNodePut e frames p g old new → NodesUpTo (at + 1) new
      go (inl none) = subst (NodesUpTo (at + 1)) (sym none.1) (record {
        each = λ n h. elim (k.each n h) [ inl zero ↦ inl zero | inr first ↦ inr (later at n first) ];
        root = k.root;
        all = λ i q w f below at_i over_i open_there onto. pick i q w f at_i over_i open_there onto (cases_lt i at) below;
      })
        where
          pick : (i : ℕ) (q : ℕ × ℕ) (w : Ways) (f : Frame) → slice_get table i ≡ Some q → slice_get ways i ≡ Some w → IsOpenPlace e frames q → slice_get frames w.onward ≡ Some f → (i < at) ⊎ (at ≤ i) → i < at + 1 → Contains old f.node
          pick i q w f at_i over_i open_there onto (inl l) below = k.all i q w f l at_i over_i open_there onto
          pick i q w f at_i over_i open_there onto (inr l) below =
              let last : i ≡ at = omega (arith, l, below) in
              let same : q ≡ p = one_at table i q p at_i (subst (λ (n : ℕ). slice_get table n ≡ Some p) (sym last) here) in
              absurd (none.0 (subst (IsOpenPlace e frames) same open_there))
      go (inr some) = subst (NodesUpTo (at + 1)) (sym some.1.2) (record {
        each = λ n h. from n (Contains-push_cases old some.1.0.node n h);
        root = Contains-append_left old (some.1.0.node ∷ []) 0 k.root;
        all = λ i q w f below at_i over_i open_there onto. pick i q w f at_i over_i open_there onto (cases_lt i at) below;
      })
        where
          from : (n : ℕ) → Contains old n ⊎ (some.1.0.node ≡ n) → (n ≡ 0) ⊎ FromFirst (at + 1) n
          from n (inl h) = elim (k.each n h) [ inl zero ↦ inl zero | inr first ↦ inr (later at n first) ]
          from n (inr same) = inr (at, p, g, some.1.0, omega arith, here, over, some.0, some.1.1, same)

          pick : (i : ℕ) (q : ℕ × ℕ) (w : Ways) (f : Frame) → slice_get table i ≡ Some q → slice_get ways i ≡ Some w → IsOpenPlace e frames q → slice_get frames w.onward ≡ Some f → (i < at) ⊎ (at ≤ i) → i < at + 1 → Contains (old ++ some.1.0.node ∷ []) f.node
          pick i q w f at_i over_i open_there onto (inl l) below = Contains-append_left old (some.1.0.node ∷ []) f.node (k.all i q w f l at_i over_i open_there onto)
          pick i q w f at_i over_i open_there onto (inr l) below =
              let last : i ≡ at = omega (arith, l, below) in
              let same : w ≡ g = one_at ways i w g over_i (subst (λ (n : ℕ). slice_get ways n ≡ Some g) (sym last) over) in
              let frame : some.1.0 ≡ f = one_at frames g.onward some.1.0 f some.1.1 (subst (λ (v : Ways). slice_get frames v.onward ≡ Some f) same onto) in
              subst (λ (h : Frame). Contains (old ++ some.1.0.node ∷ []) h.node) frame (Contains-push old some.1.0.node)

  -- all of them, sorted and each once
  pub nodes_made : (at : ℕ) (nodes sorted made : List ℕ) → length table ≤ at → NodesUpTo at nodes → IsPermutation nodes sorted → made ≡ dedup eqb sorted → AreNodesOf e frames table ways made
  nodes_made at nodes sorted made whole k moved is = subst (AreNodesOf e frames table ways) (sym is) (record {
    each = λ n h. elim (k.each n (Contains-permutation sorted nodes n (IsPermutation-sym nodes sorted moved) (Contains-from_dedup eqb sorted n h))) [ inl zero ↦ inl zero | inr f ↦ inr (f.0, f.1, f.2, f.3, f.5, f.6, f.7, f.8, f.9) ];
    root = Contains-dedup_nat sorted 0 (Contains-permutation nodes sorted 0 moved k.root);
    all = λ i p g f at_i over open_there onto. Contains-dedup_nat sorted f.node (Contains-permutation nodes sorted f.node moved (k.all i p g f (let inside = slice_get_within table i p at_i in omega (arith, inside, whole)) at_i over open_there onto));
  })
