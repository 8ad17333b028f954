-- The value of an event tree in a frame is the frame's value of its place.
use Rattle.std.proofs.Common.{◌≡◌, ◌≢◌, ℕ, Bool, true, false, List, ◌∷◌, map, refl, sym, ◌∙◌, ap, Option, Some, None}
use Rattle.std.specs.Prelude.{◌⊎◌, ◌||◌, not}
use Rattle.std.proofs.lemmas.List.Elements.{All-contains}
use Rattle.circuit_theory.specs.Cover.{cover_value}
use Rattle.circuit_theory.specs.Circuit.{Equation, Gate, Latch, Port, IsLatch, IsSingleDriven, Holds}
use Rattle.circuit_theory.specs.Run.{IsEnabled, ExtendsWith, CanPut, IsDetermined}
use Rattle.circuit_theory.specs.Tree.{Tree, Trees, tree_value, tree_values}
use Rattle.circuit_theory.specs.Frame.{EventSide, EventUnfolds, EventUnfoldsAll, IsEnable, AreFrameValues}
use Rattle.circuit_laws.specs.event_laws.Laws.{TreesAreFrameValues}
use Rattle.circuit_theory.specs.EventFits.{side_by_side}
use Rattle.circuit_theory.proofs.Inputs.{beside_is_input}
use Rattle.circuit_laws.proofs.event_laws.Events.{PutAt}
use Rattle.circuit_laws.proofs.JoinedParts.{joined_same, joined_single, joined_can_put, joined_determined}
use Rattle.circuit_laws.proofs.event_laws.SettledEvents.{put_at}

module _ {P : Type 0} (side : EventSide P) (same : (p q : P) → (p ≡ q) ⊎ (p ≢ q)) (single : IsSingleDriven side.circuit) (can_put : CanPut side.circuit)
    (det : (name : List ℕ) (u next : P) → IsLatch side.circuit name u next → IsDetermined side.circuit next) (bits : ℕ → List ℕ → Bool) (w : List ℕ → P → Bool)
    (values : AreFrameValues side (IsEnabled side.circuit) bits w) where
  mutual
    unfolding tree_value

    tree_is : {put : Option (P × Bool)} {p : P} {node : List ℕ} {tree : Tree (List ℕ)} → EventUnfolds side (IsEnabled side.circuit) put p node tree → (x : P → Bool) → PutAt side.circuit put (w node) x → tree_value bits tree ≡ x p
    tree_is (EventUnfolds.input {p = p} {node = node} {i = i} h) x ex = sym (ex.inputs p (beside_is_input side.circuit.inputs side.order p i h) ∙ values.inputs node p i h)
    tree_is (EventUnfolds.gate {fanins = fanins} {cover = cover} eq each) x ex = ap (cover_value cover) (trees_are each x ex) ∙ sym (All-contains (Holds x) side.circuit.equations _ ex.meets eq)
    tree_is (EventUnfolds.port eq rest) x ex = tree_is rest x ex ∙ sym (All-contains (Holds x) side.circuit.equations _ ex.meets eq)
    tree_is (EventUnfolds.plain {name = name} {u = u} {next = next} {node = node} latch free off rest) x ex =
        tree_is rest (w (side.class u ∷ node)) (record { meets = values.meets (side.class u ∷ node); inputs = λ p i. refl; latches = λ m p q l k. refl; fixed = none_is (side.class u ∷ node) })
        ∙ (sym (values.plain node name u next latch off) ∙ sym (ex.latches name u next latch free))
      where
        none_is : (child : List ℕ) (v : P) (b : Bool) → ◌≡◌ {A = Option (P × Bool)} None (Some (v, b)) → w child v ≡ b
        none_is child v b e = cc
    tree_is (EventUnfolds.held {name = name} {u = u} {next = next} {node = node} latch free on rest) x ex =
        let child = side.class u ∷ node in
        let low = can_put (w child) name u next false latch (values.meets child) in
        tree_is rest low.0 (put_at side.circuit single name u next false (w child) low.0 latch low.1)
        ∙ (sym (values.held node name u next low.0 latch on low.1) ∙ sym (ex.latches name u next latch free))
    tree_is (EventUnfolds.fixed {u = u} {bit = bit}) x ex = sym (ex.fixed u bit refl)

    trees_are : {put : Option (P × Bool)} {ps : List P} {node : List ℕ} {trees : Trees (List ℕ)} → EventUnfoldsAll side (IsEnabled side.circuit) put ps node trees → (x : P → Bool) → PutAt side.circuit put (w node) x →
        tree_values bits trees ≡ map x ps
    trees_are EventUnfoldsAll.none x ex = refl
    trees_are (EventUnfoldsAll.more one rest) x ex =
        let head = tree_is one x ex in
        let tail = trees_are rest x ex in
        cc

  pub place_value : (p : P) (node : List ℕ) (tree : Tree (List ℕ)) → EventUnfolds side (IsEnabled side.circuit) None p node tree → tree_value bits tree ≡ w node p
  place_value p node tree unfolds = tree_is unfolds (w node) (record { meets = values.meets node; inputs = λ q i. refl; latches = λ m q o l k. refl; fixed = none_is })
    where
      none_is : (v : P) (b : Bool) → ◌≡◌ {A = Option (P × Bool)} None (Some (v, b)) → w node v ≡ b
      none_is v b e = cc

  pub enable_value : (name : List ℕ) (u next : P) (node : List ℕ) (bit : Bool) (low high : P → Bool) → IsLatch side.circuit name u next → IsEnabled side.circuit u → ExtendsWith side.circuit u false (w node) low →
      ExtendsWith side.circuit u true (w node) high → IsEnable side (IsEnabled side.circuit) bits u node bit → bit ≡ (low next || not (high next))
  enable_value name u next node bit low high latch on l h (IsEnable.always off e) = absurd (off on)
  enable_value name u next node bit low high latch on l h (IsEnable.own {name = own} {next = to} {low = low_tree} {high = high_tree} on' latch' low_is high_is e) = sym e ∙ both_are
    where
      next_of : Equation P → P
      next_of (Gate out fanins cover) = out
      next_of (Latch m out o) = o
      next_of (Port out from) = from

      at : to ≡ next
      at = ap next_of (single.one (Latch own u to) (Latch name u next) latch' latch refl)

      low_value : tree_value bits low_tree ≡ low next
      low_value = tree_is low_is low (put_at side.circuit single name u next false (w node) low latch l) ∙ ap low at

      high_value : tree_value bits high_tree ≡ high next
      high_value = tree_is high_is high (put_at side.circuit single name u next true (w node) high latch h) ∙ ap high at

      both_are : (tree_value bits low_tree || not (tree_value bits high_tree)) ≡ (low next || not (high next))
      both_are = λ i. low_value i || not (high_value i)

pub trees_are_frame_values_in_nets : TreesAreFrameValues
trees_are_frame_values_in_nets a b m n left right class na nb bits w values = (
  place_value (side_by_side a b left right class) joined_same (joined_single a b m n na nb) (joined_can_put a b m n na nb) (joined_determined a b m n na nb) bits w values,
  enable_value (side_by_side a b left right class) joined_same (joined_single a b m n na nb) (joined_can_put a b m n na nb) (joined_determined a b m n na nb) bits w values,
)
