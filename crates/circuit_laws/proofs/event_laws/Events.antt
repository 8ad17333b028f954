-- In a run whose events exist, the frame of their inputs gives the run's values and has care.
use Rattle.std.proofs.Common.{◌≡◌, ◌≢◌, ℕ, zero, suc, ◌+◌, ◌-◌, ◌<◌, ◌≤◌, Bool, true, false, List, [], ◌∷◌, map, refl, sym, ◌∙◌, ap, subst, arith, inl, inr, Option, Some, None}
use Rattle.std.specs.Prelude.{◌⊎◌, ◌||◌, not}
use Rattle.std.specs.List.{Contains}
use Rattle.std.proofs.lemmas.List.Elements.{All-contains}
use Rattle.circuit_theory.specs.Cover.{cover_value}
use Rattle.circuit_theory.specs.Circuit.{Circuit, Latch, IsInput, IsLatch, IsSingleDriven, Meets, Carries, Holds, Reads, Reaches}
use Rattle.circuit_theory.specs.Run.{IsRun, IsEnabled, ExtendsWith, CanPut, IsDetermined}
use Rattle.circuit_theory.specs.Tree.{Tree, Trees, tree_value, tree_values, IsInputNumber}
use Rattle.circuit_theory.specs.Frame.{EventSide, NotPut, EventUnfolds, EventUnfoldsAll, ConeLatches, ReachedAt, IsEnable, HasCare, IsLastLoad}
use Rattle.circuit_theory.proofs.Lists.{Contains-head, Contains-tail}
use Rattle.circuit_theory.proofs.Inputs.{beside_is_input}
use Rattle.circuit_laws.proofs.Loads.{loads_low, keeps_value}

-- an enabled latch has what it took over at its last load
module _ {P : Type 0} (c : Circuit P) (same : (p q : P) → (p ≡ q) ⊎ (p ≢ q)) (n : ℕ) (run : ℕ → P → Bool) (is_run : IsRun c n run) (name : List ℕ) (u next : P) (latch : IsLatch c name u next) (det : IsDetermined c next) where
  pub last_load_value : CanPut c → ((x low high : P → Bool) → ExtendsWith c u false x low → ExtendsWith c u true x high → low next ≡ true → high next ≡ true) →
      (before cycle : ℕ) → before < n → (last : IsLastLoad c run u next before cycle) → run before u ≡ last.loads.low next
  last_load_value can_put rises before cycle h last =
      let all = since (before - (cycle + 1)) (omega (arith, last.earlier)) in
      let e : before ≡ cycle + 1 + (before - (cycle + 1)) = omega (arith, last.earlier) in
      ap (λ t. run t u) e ∙ all
    where
      since : (m : ℕ) → cycle + 1 + m ≤ before → run (cycle + 1 + m) u ≡ last.loads.low next
      since zero k = ap (λ t. run t u) (let e : cycle + 1 + 0 ≡ cycle + 1 = omega arith in e) ∙ loads_low c same n run is_run name u next latch det cycle (omega arith) last.loads
      since (suc m) k =
          let e : cycle + 1 + suc m ≡ cycle + 1 + m + 1 = omega arith in
          ap (λ t. run t u) e ∙ (keeps_value c same n run is_run name u next latch det can_put rises (cycle + 1 + m) (omega arith) (last.not_since (cycle + 1 + m) (omega arith) (omega arith)) ∙ since m (omega arith))

-- values of a cycle, with the put latch read as its bit
pub record PutAt {P : Type 0} (c : Circuit P) (put : Option (P × Bool)) (v x : P → Bool) : Type 0 where
  pub meets : Meets c x
  pub inputs : (p : P) → IsInput c p → x p ≡ v p
  pub latches : (name : List ℕ) (p next : P) → IsLatch c name p next → NotPut put p → x p ≡ v p
  pub fixed : (u : P) (bit : Bool) → put ≡ Some (u, bit) → x u ≡ bit

-- at says in which cycle of the run each node lies
pub record AreEvents {P : Type 0} (side : EventSide P) (enabled : P → Type 0) (start : P → Type 0) (n : ℕ) (run : ℕ → P → Bool) (at : List ℕ → ℕ) (bits : ℕ → List ℕ → Bool) : Type 0 where
  pub in_range : (node : List ℕ) → at node < n
  pub plain : (node : List ℕ) (name : List ℕ) (v next : P) → ReachedAt side enabled start node v → IsLatch side.circuit name v next → (enabled v → ⊥) → at node ≡ at (side.class v ∷ node) + 1
  pub held : (node : List ℕ) (name : List ℕ) (v next : P) → ReachedAt side enabled start node v → IsLatch side.circuit name v next → enabled v → IsLastLoad side.circuit run v next (at node) (at (side.class v ∷ node))
  pub bits_are : (node : List ℕ) (p : P) (i : ℕ) → IsInputNumber side.circuit side.order p i → bits i node ≡ run (at node) p

module _ {P : Type 0} (side : EventSide P) (same : (p q : P) → (p ≡ q) ⊎ (p ≢ q)) (single : IsSingleDriven side.circuit) (can_put : CanPut side.circuit)
    (det : (name : List ℕ) (u next : P) → IsLatch side.circuit name u next → IsDetermined side.circuit next)
    (rises : (name : List ℕ) (u next : P) → IsLatch side.circuit name u next → IsEnabled side.circuit u →
    (x low high : P → Bool) → ExtendsWith side.circuit u false x low → ExtendsWith side.circuit u true x high → low next ≡ true → high next ≡ true)
    (n : ℕ) (run : ℕ → P → Bool) (is_run : IsRun side.circuit n run) (start : P → Type 0) (at : List ℕ → ℕ) (bits : ℕ → List ℕ → Bool)
    (events : AreEvents side (IsEnabled side.circuit) start n run at bits) where
  -- values with a latch put, as the lemma wants them
  pub from_put : (name : List ℕ) (u next : P) (bit : Bool) (v x : P → Bool) → IsLatch side.circuit name u next → ExtendsWith side.circuit u bit v x → PutAt side.circuit (Some (u, bit)) v x
  from_put name u next bit v x latch ex = record {
    meets = ex.meets;
    inputs = λ p i. ex.sources p (inl i) (λ e. single.no_input (Latch name u next) latch (subst (IsInput side.circuit) e i));
    latches = λ m p q l ne. ex.sources p (inr (m, q, l)) ne;
    fixed = λ w b e. fixed_is w b e;
  }
    where
      fixed_is : (w : P) (b : Bool) → ◌≡◌ {A = Option (P × Bool)} (Some (u, bit)) (Some (w, b)) → x w ≡ b
      fixed_is w b e = let pair : ◌≡◌ {A = P × Bool} (u, bit) (w, b) = unwrap (u, bit) (w, b) e in sym (ap (λ (z : P × Bool). x z.0) pair) ∙ (ex.put ∙ ap (λ (z : P × Bool). z.1) pair)
        where
          unwrap : (y z : P × Bool) → Some y ≡ Some z → y ≡ z
          unwrap y z e = cc

  mutual
    unfolding tree_value

    pub event_tree_is_run : {put : Option (P × Bool)} {p : P} {node : List ℕ} {tree : Tree (List ℕ)} → EventUnfolds side (IsEnabled side.circuit) put p node tree →
        (x : P → Bool) → PutAt side.circuit put (run (at node)) x → ((v : P) → ConeLatches side.circuit p v → NotPut put v → ReachedAt side (IsEnabled side.circuit) start node v) → tree_value bits tree ≡ x p
    event_tree_is_run (EventUnfolds.input {p = p} {node = node} {i = i} h) x ex reached =
        events.bits_are node p i h ∙ sym (ex.inputs p (beside_is_input side.circuit.inputs side.order p i h))
    event_tree_is_run (EventUnfolds.gate {fanins = fanins} {cover = cover} eq each) x ex reached =
        ap (cover_value cover) (event_trees_are_run each x ex (λ p h v cone. reached v (cone.0, cone.1, cone.2, Reaches.there (Reads.by_gate eq h) cone.3)))
        ∙ sym (All-contains (Holds x) side.circuit.equations _ ex.meets eq)
    event_tree_is_run (EventUnfolds.port eq from) x ex reached =
        event_tree_is_run from x ex (λ v cone. reached v (cone.0, cone.1, cone.2, Reaches.there (Reads.by_port eq) cone.3)) ∙ sym (All-contains (Holds x) side.circuit.equations _ ex.meets eq)
    event_tree_is_run (EventUnfolds.plain {name = name} {u = u} {next = next} {node = node} {tree = tree} latch not_put not_enabled rest) x ex reached =
        let here = reached u (name, next, latch, Reaches.here) not_put in
        let child = side.class u ∷ node in
        let step : at node ≡ at child + 1 = events.plain node name u next here latch not_enabled in
        let r = events.in_range node in
        let ih : tree_value bits tree ≡ run (at child) next = event_tree_is_run rest (run (at child))
        (record { meets = is_run.meets (at child) (events.in_range child); inputs = λ p i. refl; latches = λ m p q l k. refl; fixed = λ w b e. none_is w b e })
        (λ v cone k. (u, here, refl, (name, next, latch, cone, λ en. absurd (not_enabled en)))) in
        let carried : run (at child + 1) u ≡ run (at child) next = All-contains (Carries (run (at child)) (run (at child + 1))) side.circuit.equations _ (is_run.carries (at child) (omega arith)) latch in
        ih ∙ (sym carried ∙ (ap (λ t. run t u) (sym step) ∙ sym (ex.latches name u next latch not_put)))
      where
        none_is : (w : P) (b : Bool) → ◌≡◌ {A = Option (P × Bool)} None (Some (w, b)) → run (at (side.class u ∷ node)) w ≡ b
        none_is w b e = cc
    event_tree_is_run (EventUnfolds.held {name = name} {u = u} {next = next} {node = node} {tree = tree} latch not_put enabled rest) x ex reached =
        let here = reached u (name, next, latch, Reaches.here) not_put in
        let child = side.class u ∷ node in
        let last = events.held node name u next here latch enabled in
        let value = last_load_value side.circuit same n run is_run name u next latch (det name u next latch) can_put (rises name u next latch enabled) (at node) (at child) (events.in_range node) last in
        let ih : tree_value bits tree ≡ last.loads.low next = event_tree_is_run rest last.loads.low (from_put name u next false (run (at child)) last.loads.low latch last.loads.low_is)
        (λ v cone k. (u, here, refl, (name, next, latch, cone, λ en. k))) in
        ih ∙ (sym value ∙ sym (ex.latches name u next latch not_put))
    event_tree_is_run (EventUnfolds.fixed {u = u} {bit = bit}) x ex reached = sym (ex.fixed u bit refl)

    pub event_trees_are_run : {put : Option (P × Bool)} {ps : List P} {node : List ℕ} {trees : Trees (List ℕ)} → EventUnfoldsAll side (IsEnabled side.circuit) put ps node trees →
        (x : P → Bool) → PutAt side.circuit put (run (at node)) x →
        ((p : P) → Contains ps p → (v : P) → ConeLatches side.circuit p v → NotPut put v → ReachedAt side (IsEnabled side.circuit) start node v) → tree_values bits trees ≡ map x ps
    event_trees_are_run EventUnfoldsAll.none x ex reached = refl
    event_trees_are_run (EventUnfoldsAll.more {p = p} {ps = ps} one rest) x ex reached =
        let head = event_tree_is_run one x ex (reached p (Contains-head p ps)) in
        let tail = event_trees_are_run rest x ex (λ q h. reached q (Contains-tail p q ps h)) in
        cc

  -- the frame of the events has care
  pub events_have_care : ((v : P) → IsEnabled side.circuit v ⊎ (IsEnabled side.circuit v → ⊥)) →
      ((v : P) → start v → (name : List ℕ) × (next : P) × IsLatch side.circuit name v next) →
      ((node : List ℕ) (name : List ℕ) (v next : P) (bit : Bool) → ReachedAt side (IsEnabled side.circuit) start node v → IsLatch side.circuit name v next → IsEnabled side.circuit v →
      (tree : Tree (List ℕ)) × EventUnfolds side (IsEnabled side.circuit) (Some (v, bit)) next (side.class v ∷ node) tree) →
      HasCare side (IsEnabled side.circuit) start bits
  events_have_care kind start_latch trees node v reached = go (kind v) (latch_of node reached)
    where
      latch_of : (node : List ℕ) → ReachedAt side (IsEnabled side.circuit) start node v → (name : List ℕ) × (next : P) × IsLatch side.circuit name v next
      latch_of [] h = start_latch v h
      latch_of (k ∷ node) h = let others = h.3 in let cone = others.3 in (cone.0, cone.1, cone.2)

      or_not : (x y : Bool) → x ≡ y → (x || not y) ≡ true
      or_not true y e = refl
      or_not false true e = cc
      or_not false false e = refl

      go : IsEnabled side.circuit v ⊎ (IsEnabled side.circuit v → ⊥) → (name : List ℕ) × (next : P) × IsLatch side.circuit name v next →
          IsEnable side (IsEnabled side.circuit) bits v (side.class v ∷ node) true
      go (inr no_enable) latch = IsEnable.always no_enable refl
      go (inl enabled) (name, next, latch) =
          let child = side.class v ∷ node in
          let last = events.held node name v next reached latch enabled in
          let low = trees node name v next false reached latch enabled in
          let high = trees node name v next true reached latch enabled in
          let inner : (w : P) → ConeLatches side.circuit next w → w ≢ v → ReachedAt side (IsEnabled side.circuit) start child w =
          λ w cone k. (v, reached, refl, (name, next, latch, cone, λ en. k)) in
          let l = event_tree_is_run low.1 last.loads.low (from_put name v next false (run (at child)) last.loads.low latch last.loads.low_is) inner in
          let h = event_tree_is_run high.1 last.loads.high (from_put name v next true (run (at child)) last.loads.high latch last.loads.high_is) inner in
          IsEnable.own enabled latch low.1 high.1 (or_not _ _ (l ∙ (last.loads.same ∙ sym h)))
