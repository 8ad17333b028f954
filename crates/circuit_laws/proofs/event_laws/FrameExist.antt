-- Each frame has values: each latch at a node has the value of its event tree there, and each input the frame's bit.
use Rattle.std.proofs.Common.{◌≡◌, ◌≢◌, ℕ, ◌+◌, ◌<◌, Bool, false, List, [], ◌∷◌, ◌++◌, length, map, refl, sym, ◌∙◌, ap, inl, inr, Option, Some, None}
use Rattle.std.specs.Prelude.{◌⊎◌}
use Rattle.std.proofs.lemmas.List.{length-append}
use Rattle.std.proofs.lemmas.List.Elements.{All-contains}
use Rattle.circuit_theory.specs.Cover.{cover_value}
use Rattle.circuit_theory.specs.Circuit.{Named, Latch, IsLatch, IsSingleDriven, Holds}
use Rattle.circuit_theory.specs.Run.{IsEnabled, Extends, IsDetermined}
use Rattle.circuit_theory.specs.Tree.{Tree, Trees, StandsBeside, IsInputNumber, tree_value, tree_values}
use Rattle.circuit_theory.specs.Joined.{Either, Left, Right, moved_name, joined}
use Rattle.circuit_theory.specs.Frame.{EventSide, EventUnfolds, EventUnfoldsAll, ConeOthers, AreFrameValues}
use Rattle.circuit_theory.specs.EventFits.{side_by_side}
use Rattle.circuit_laws.specs.event_laws.Laws.{FrameValuesExist}
use Rattle.circuit_theory.proofs.Lists.{length-map}
use Rattle.circuit_theory.proofs.Inputs.{beside_is_input}
use Rattle.circuit_laws.proofs.JoinedParts.{joined_same, joined_single, joined_determined, joined_number_once}
use Rattle.circuit_laws.proofs.JoinedValues.{joined_values}
use Rattle.circuit_laws.proofs.event_laws.Events.{PutAt}
use Rattle.circuit_laws.proofs.event_laws.EventTrees.{event_tree, one_event_tree}
use Rattle.circuit_laws.proofs.finite_laws.Deciding.{latch_or}
use Rattle.circuit_laws.proofs.finite_laws.EnabledDecided.{enabled_in_nets_beside}
use Rattle.circuit_laws.proofs.event_laws.EventAgreement.{rank, rank_falls}
use Rattle.circuit_laws.proofs.event_laws.SettledEvents.{put_at}

-- the number of an input, or that the place is none
number_at : {P : Type 0} → ((p q : P) → (p ≡ q) ⊎ (p ≢ q)) → (inputs : List (Named P)) (order : List ℕ) (p : P) → ((i : ℕ) × StandsBeside inputs order p i) ⊎ ((i : ℕ) → StandsBeside inputs order p i → ⊥)
number_at same [] order p = inr (λ i h. h)
number_at same (n ∷ inputs) [] p = inr (λ i h. h)
number_at {P} same (n ∷ inputs) (j ∷ order) p = go (same n.place p) (number_at same inputs order p)
  where
    go : (n.place ≡ p) ⊎ (n.place ≢ p) → ((i : ℕ) × StandsBeside inputs order p i) ⊎ ((i : ℕ) → StandsBeside inputs order p i → ⊥) →
        ((i : ℕ) × StandsBeside (n ∷ inputs) (j ∷ order) p i) ⊎ ((i : ℕ) → StandsBeside (n ∷ inputs) (j ∷ order) p i → ⊥)
    go (inl e) rest = inl (j, inl (e, refl))
    go (inr apart) (inl r) = inl (r.0, inr r.1)
    go (inr apart) (inr none) = inr (λ i h. neither i h)
      where
        neither : (i : ℕ) → StandsBeside (n ∷ inputs) (j ∷ order) p i → ⊥
        neither i (inl k) = apart k.0
        neither i (inr k) = none i k

module _ {P : Type 0} (side : EventSide P) (same : (p q : P) → (p ≡ q) ⊎ (p ≢ q)) (single : IsSingleDriven side.circuit) (values : (x : P → Bool) → (v : P → Bool) × Extends side.circuit x v)
    (det : (name : List ℕ) (u next : P) → IsLatch side.circuit name u next → IsDetermined side.circuit next) (numbered : length side.order ≡ length side.circuit.inputs)
    (one_number : (p : P) (i j : ℕ) → IsInputNumber side.circuit side.order p i → IsInputNumber side.circuit side.order p j → i ≡ j)
    (kind : (v : P) → IsEnabled side.circuit v ⊎ (IsEnabled side.circuit v → ⊥)) (rank_of : P → ℕ) (falls : (u w : P) → ConeOthers side.circuit (IsEnabled side.circuit) u w → rank_of w < rank_of u)
    (bits : ℕ → List ℕ → Bool) where
  abbrev On : P → Type 0
  On = IsEnabled side.circuit

  -- what a latch takes over has a tree at the child by its class
  plain_tree : (name : List ℕ) (u next : P) (node : List ℕ) → IsLatch side.circuit name u next → (On u → ⊥) → (tree : Tree (List ℕ)) × EventUnfolds side On None next (side.class u ∷ node) tree
  plain_tree name u next node latch off =
      event_tree side On same kind numbered det rank_of falls (rank_of u) next None (side.class u ∷ node) (det name u next latch) (λ w cone free. falls u w (name, next, latch, cone, λ en. absurd (off en)))

  held_tree : (name : List ℕ) (u next : P) (node : List ℕ) → IsLatch side.circuit name u next → (tree : Tree (List ℕ)) × EventUnfolds side On (Some (u, false)) next (side.class u ∷ node) tree
  held_tree name u next node latch =
      event_tree side On same kind numbered det rank_of falls (rank_of u) next (Some (u, false)) (side.class u ∷ node) (det name u next latch) (λ w cone free. falls u w (name, next, latch, cone, λ en. free))

  latch_tree : (name : List ℕ) (u next : P) (node : List ℕ) → IsLatch side.circuit name u next → (tree : Tree (List ℕ)) × EventUnfolds side On None u node tree
  latch_tree name u next node latch = go (kind u)
    where
      go : On u ⊎ (On u → ⊥) → (tree : Tree (List ℕ)) × EventUnfolds side On None u node tree
      go (inl on) = let t = held_tree name u next node latch in (t.0, EventUnfolds.held latch tt on t.1)
      go (inr off) = let t = plain_tree name u next node latch off in (t.0, EventUnfolds.plain latch tt off t.1)

  abbrev AtLatch : P → Type 0
  AtLatch p = ((name : List ℕ) × (next : P) × IsLatch side.circuit name p next) ⊎ ((name : List ℕ) (next : P) → IsLatch side.circuit name p next → ⊥)

  abbrev AtNumber : P → Type 0
  AtNumber p = ((i : ℕ) × IsInputNumber side.circuit side.order p i) ⊎ ((i : ℕ) → IsInputNumber side.circuit side.order p i → ⊥)

  abbrev by_number : List ℕ → (p : P) → AtNumber p → Bool
  by_number node p (inl r) = bits r.0 node
  by_number node p (inr none) = false

  -- the value of an input or latch at a node
  abbrev by_source : List ℕ → (p : P) → AtLatch p → AtNumber p → Bool
  by_source node p (inl l) k = tree_value bits (latch_tree l.0 p l.1 node l.2).0
  by_source node p (inr none) k = by_number node p k

  abbrev source : List ℕ → P → Bool
  source node p = by_source node p (latch_or same side.circuit.equations p) (number_at same side.circuit.inputs side.order p)

  -- a latch has the value of its tree
  source_latch : (name : List ℕ) (u next : P) (node : List ℕ) (tree : Tree (List ℕ)) → IsLatch side.circuit name u next → EventUnfolds side On None u node tree → source node u ≡ tree_value bits tree
  source_latch name u next node tree latch unfolds = go (latch_or same side.circuit.equations u) (number_at same side.circuit.inputs side.order u)
    where
      go : (d : AtLatch u) (k : AtNumber u) → by_source node u d k ≡ tree_value bits tree
      go (inl l) k = ap (tree_value bits) (one_event_tree side On single one_number tt (latch_tree l.0 u l.1 node l.2).1 unfolds)
      go (inr none) k = absurd (none name next latch)

  -- an input has the frame's bit
  source_input : (p : P) (i : ℕ) (node : List ℕ) → IsInputNumber side.circuit side.order p i → source node p ≡ bits i node
  source_input p i node h = go (latch_or same side.circuit.equations p) (number_at same side.circuit.inputs side.order p)
    where
      go : (d : AtLatch p) (k : AtNumber p) → by_source node p d k ≡ bits i node
      go (inl l) k = absurd (single.no_input (Latch l.0 p l.1) l.2 (beside_is_input side.circuit.inputs side.order p i h))
      go (inr none) (inl r) = ap (λ j. bits j node) (one_number p r.0 i r.1 h)
      go (inr none) (inr absent) = absurd (absent i h)

  abbrev w : List ℕ → P → Bool
  w node = (values (source node)).0

  w_latch : (name : List ℕ) (u next : P) (node : List ℕ) (tree : Tree (List ℕ)) → IsLatch side.circuit name u next → EventUnfolds side On None u node tree → w node u ≡ tree_value bits tree
  w_latch name u next node tree latch unfolds = (values (source node)).1.sources u (inr (name, next, latch)) ∙ source_latch name u next node tree latch unfolds

  w_input : (p : P) (i : ℕ) (node : List ℕ) → IsInputNumber side.circuit side.order p i → w node p ≡ bits i node
  w_input p i node h = (values (source node)).1.sources p (inl (beside_is_input side.circuit.inputs side.order p i h)) ∙ source_input p i node h

  mutual
    unfolding tree_value

    tree_is : {put : Option (P × Bool)} {p : P} {node : List ℕ} {tree : Tree (List ℕ)} → EventUnfolds side On put p node tree → (x : P → Bool) → PutAt side.circuit put (w node) x → tree_value bits tree ≡ x p
    tree_is (EventUnfolds.input {p = p} {node = node} {i = i} h) x ex = sym (ex.inputs p (beside_is_input side.circuit.inputs side.order p i h) ∙ w_input p i node h)
    tree_is (EventUnfolds.gate {fanins = fanins} {cover = cover} eq each) x ex = ap (cover_value cover) (trees_are each x ex) ∙ sym (All-contains (Holds x) side.circuit.equations _ ex.meets eq)
    tree_is (EventUnfolds.port eq rest) x ex = tree_is rest x ex ∙ sym (All-contains (Holds x) side.circuit.equations _ ex.meets eq)
    tree_is (EventUnfolds.plain {name = name} {u = u} {next = next} {node = node} {tree = tree} latch free off rest) x ex =
        sym (ex.latches name u next latch free ∙ w_latch name u next node tree latch (EventUnfolds.plain latch tt off rest))
    tree_is (EventUnfolds.held {name = name} {u = u} {next = next} {node = node} {tree = tree} latch free on rest) x ex =
        sym (ex.latches name u next latch free ∙ w_latch name u next node tree latch (EventUnfolds.held latch tt on rest))
    tree_is (EventUnfolds.fixed {u = u} {bit = bit}) x ex = sym (ex.fixed u bit refl)

    trees_are : {put : Option (P × Bool)} {ps : List P} {node : List ℕ} {trees : Trees (List ℕ)} → EventUnfoldsAll side On put ps node trees → (x : P → Bool) → PutAt side.circuit put (w node) x → tree_values bits trees ≡ map x ps
    trees_are EventUnfoldsAll.none x ex = refl
    trees_are (EventUnfoldsAll.more one rest) x ex =
        let head = tree_is one x ex in
        let tail = trees_are rest x ex in
        cc

  pub frame_values : (v : List ℕ → P → Bool) × AreFrameValues side On bits v
  frame_values = (
    w,
    record {
      meets = λ node. (values (source node)).1.meets;
      inputs = λ node p i h. w_input p i node h;
      plain = λ node name u next latch off.
          let t = plain_tree name u next node latch off in
          w_latch name u next node t.0 latch (EventUnfolds.plain latch tt off t.1) ∙ tree_is t.1 (w (side.class u ∷ node)) (itself (side.class u ∷ node));
      held = λ node name u next low latch on is.
          let t = held_tree name u next node latch in
          w_latch name u next node t.0 latch (EventUnfolds.held latch tt on t.1) ∙ tree_is t.1 low (put_at side.circuit single name u next false (w (side.class u ∷ node)) low latch is);
    },
  )
    where
      itself : (node : List ℕ) → PutAt side.circuit None (w node) (w node)
      itself node = record { meets = (values (source node)).1.meets; inputs = λ p i. refl; latches = λ m q o l k. refl; fixed = none_is }
        where
          none_is : (v : P) (b : Bool) → ◌≡◌ {A = Option (P × Bool)} None (Some (v, b)) → w node v ≡ b
          none_is v b e = cc

pub frame_values_exist_in_nets : FrameValuesExist
frame_values_exist_in_nets a b m n left right class na nb left_long right_long depths bits =
    frame_values (side_by_side a b left right class) joined_same single (joined_values a b m n na nb) (joined_determined a b m n na nb) numbered
    (λ r i j h k. joined_number_once a b m n na nb left right left_long r i j h k) (enabled_in_nets_beside a b m n na nb) (rank (joined a b) single joined_same depths) (rank_falls (joined a b) single joined_same depths) bits
  where
    single : IsSingleDriven (joined a b)
    single = joined_single a b m n na nb

    numbered : length (left ++ right) ≡ length (joined a b).inputs
    numbered =
        let l : length (map (moved_name {P = ℕ} {Q = Either ℕ ℕ} Left) a.inputs) ≡ length a.inputs = length-map (moved_name Left) a.inputs in
        let r : length (map (moved_name {P = ℕ} {Q = Either ℕ ℕ} Right) b.inputs) ≡ length b.inputs = length-map (moved_name Right) b.inputs in
        length-append left right
        ∙ (ap (λ k. k + length right) (left_long ∙ sym l) ∙ (ap (λ k. length (map (moved_name {P = ℕ} {Q = Either ℕ ℕ} Left) a.inputs) + k) (right_long ∙ sym r)
        ∙ sym (length-append (map (moved_name Left) a.inputs) (map (moved_name Right) b.inputs))))
