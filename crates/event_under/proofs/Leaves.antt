-- The leaves of the trees that a pair's cares read are leaves of the pair's own trees.
use Rattle.std.proofs.Common.{◌≡◌, ◌++◌, ℕ, Bool, false, List, [], ◌∷◌, length, Some, None, refl, inl, inr}
use Rattle.std.specs.Prelude.{◌⊎◌}
use Rattle.circuit_theory.specs.Circuit.{Circuit, IsLatch, IsSingleDriven, Meets}
use Rattle.circuit_theory.specs.Joined.{Either, Left, Right, joined, beside}
use Rattle.circuit_theory.specs.Net.{IsNet}
use Rattle.circuit_theory.specs.Query.{Variable, HasLeaf}
use Rattle.circuit_theory.specs.Run.{IsEnabled}
use Rattle.circuit_theory.specs.Tree.{Tree, IsInputNumber}
use Rattle.circuit_theory.proofs.Lists.{Contains-head}
use Rattle.circuit_laws.proofs.JoinedParts.{joined_single, joined_number_once, left_part, right_part, replace_left, replace_right, meets_both}
use Rattle.circuit_laws.proofs.NetLaws.{net_value, net_value-extends}
use Rattle.circuit_laws.proofs.Parts.{latch_from, enabled_up, enabled_from}
use Rattle.circuit_theory.specs.EventFrames.{AreNodeVariables, IsCareTree, IsPairTree}
use Rattle.circuit_theory.specs.EventSizes.{Start, EventVisits}
use Rattle.circuit_theory.specs.EventTotals.{StartLatches}
use Rattle.circuit_theory.specs.Frame.{EventSide, EventUnfolds, ConeLatches, ReachedAt}
use Rattle.flat_net.specs.View.{circuit_of}
use Rattle.flat_net.proofs.Nets.{sound_is_net}
use Rattle.event_nodes.specs.Nodes.{EventGraphView}
use Rattle.event_nodes.specs.View.{EventCircuitView}
use Rattle.event_nodes.proofs.Bits.{kind_of}
use Rattle.event_nodes.proofs.Visits.{reached_visited}
use Rattle.event_nodes.proofs.event_variables.Leaves.{IsPart, leaf_visited, visited_part, part_leaf}
use Rattle.edbf_unfold.specs.class_queries.Enables.{both_of}
use Rattle.edbf_unfold.specs.class_queries.Laws.{AreKept}
use Rattle.edbf_unfold.proofs.class_queries.Meaning.{numbered}
use Rattle.assume_laws.specs.Sequences.{IsSideTree}
use Rattle.event_under.specs.Laws.{SidesHaveAllVariables}

module _ {P : Type 0} (s : EventSide P) (on : P → Type 0) (single : IsSingleDriven s.circuit) (one_number : (p : P) (i j : ℕ) → IsInputNumber s.circuit s.order p i → IsInputNumber s.circuit s.order p j → i ≡ j)
    (decided : (name : List ℕ) (v next : P) → IsLatch s.circuit name v next → on v ⊎ (on v → ⊥)) where
  abbrev start : P → Start P
  start p = record { place = p; left_out = None }

  begun : (p : P) (node : List ℕ) (v : P) → ReachedAt s on (ConeLatches s.circuit p) node v → ReachedAt s on (StartLatches s (start p ∷ [])) node v
  begun p [] v r = (start p, Contains-head (start p) [], r, tt)
  begun p (k ∷ node) v r = (r.0, begun p node r.0 r.1, r.2, r.3)

  -- a latch that is reached at a node is visited where the place's own unfolding is, and so are the leaves of its two functions
  pub own_leaf : (p : P) (whole : Tree (List ℕ)) → EventUnfolds s on None p [] whole → (node : List ℕ) (name : List ℕ) (v next : P) (bit : Bool) (tree : Tree (List ℕ)) → ReachedAt s on (ConeLatches s.circuit p) node v → IsLatch s.circuit name v next → on v →
      EventUnfolds s on (Some (v, bit)) next (s.class v ∷ node) tree → (y : Variable (List ℕ)) → HasLeaf y tree → HasLeaf y whole
  own_leaf p whole unfolds node name v next bit tree reached latch enabled inner y stands =
      let m = reached_visited s on (start p ∷ []) decided node v (begun p node v reached) in
      let l = leaf_visited s on (start p ∷ []) inner (EventVisits.held m.visit m.other latch enabled) y stands in
      let own : IsPart s on single one_number whole None p [] = record { put = None; fits = refl; latch = tt; tree = whole; unfolds = unfolds; leaves = λ z k. k } in
      let part = visited_part s on single one_number (start p) whole own l.visit in
      part_leaf s on single one_number whole l.out l.place y.at part y.input l.input

module _ (a b : EventCircuitView) (w : EventGraphView) (kept : AreKept a b w) where
  abbrev ca : Circuit ℕ
  ca = circuit_of a.net

  abbrev cb : Circuit ℕ
  cb = circuit_of b.net

  na : IsNet ca (length a.net.drivers)
  na = sound_is_net a.net kept.left_sound

  nb : IsNet cb (length b.net.drivers)
  nb = sound_is_net b.net kept.right_sound

  abbrev j : Circuit (Either ℕ ℕ)
  j = joined ca cb

  some : Either ℕ ℕ → Bool
  some = beside (net_value ca (λ p. false)) (net_value cb (λ q. false))

  meets : Meets j some
  unfolding some
  meets = meets_both ca cb (net_value ca (λ p. false)) (net_value cb (λ q. false)) (net_value-extends ca (length a.net.drivers) na (λ p. false)).meets (net_value-extends cb (length b.net.drivers) nb (λ q. false)).meets

  single : IsSingleDriven j
  single = joined_single ca cb (length a.net.drivers) (length b.net.drivers) na nb

  one_number : (p : Either ℕ ℕ) (m n : ℕ) → IsInputNumber j (a.order ++ b.order) p m → IsInputNumber j (a.order ++ b.order) p n → m ≡ n
  one_number = joined_number_once ca cb (length a.net.drivers) (length b.net.drivers) na nb a.order b.order (numbered a kept.left)

  decided : (name : List ℕ) (v next : Either ℕ ℕ) → IsLatch j name v next → IsEnabled j v ⊎ (IsEnabled j v → ⊥)
  decided name (Left u) next latch =
      let own = latch_from ca j Left (replace_left ca cb) (left_part ca cb) name u next latch in
      elim (kind_of a kept.left_sound kept.left name u own.0 own.1) [
        | inl on ↦ inl (enabled_up ca j Left (replace_left ca cb) (left_part ca cb) u on)
        | inr off ↦ inr (λ on. off (enabled_from ca j Left (replace_left ca cb) (left_part ca cb) some meets u on))
      ]
  decided name (Right u) next latch =
      let own = latch_from cb j Right (replace_right ca cb) (right_part ca cb) name u next latch in
      elim (kind_of b kept.right_sound kept.right name u own.0 own.1) [
        | inl on ↦ inl (enabled_up cb j Right (replace_right ca cb) (right_part ca cb) u on)
        | inr off ↦ inr (λ on. off (enabled_from cb j Right (replace_right ca cb) (right_part ca cb) some meets u on))
      ]

  care_leaf : (p : Either ℕ ℕ) (whole : Tree (List ℕ)) → EventUnfolds (both_of a b) (IsEnabled j) None p [] whole → (tree : Tree (List ℕ)) → IsCareTree (both_of a b) (ConeLatches j p) tree → (y : Variable (List ℕ)) → HasLeaf y tree → HasLeaf y whole
  care_leaf p whole unfolds tree (IsCareTree.enable {node = node} {name = name} {v = v} {next = next} {bit = bit} reached latch on inner) y stands =
      own_leaf (both_of a b) (IsEnabled j) single one_number decided p whole unfolds node name v next bit tree reached latch on inner y stands

  pub side_variables : (p q : Either ℕ ℕ) (left right : Tree (List ℕ)) → EventUnfolds (both_of a b) (IsEnabled j) None p [] left → EventUnfolds (both_of a b) (IsEnabled j) None q [] right → (variables : List (Variable (List ℕ))) →
      AreNodeVariables (IsPairTree (both_of a b) p q) variables → AreNodeVariables (IsSideTree (both_of a b) p q) variables
  side_variables p q left right left_unfolds right_unfolds variables are = record {
    in_order = are.in_order;
    exactly = λ y. (
      λ h. (let t = (are.exactly y).0 h in from y t.0 t.1 t.2),
      λ h. (are.exactly y).1 (h.0, inl h.1, h.2),
    );
  }
    where
      from : (y : Variable (List ℕ)) (tree : Tree (List ℕ)) → IsPairTree (both_of a b) p q tree → HasLeaf y tree → (t : Tree (List ℕ)) × IsSideTree (both_of a b) p q t × HasLeaf y t
      from y tree (inl own) stands = (tree, own, stands)
      from y tree (inr (inl care)) stands = (left, inl left_unfolds, care_leaf p left left_unfolds tree care y stands)
      from y tree (inr (inr care)) stands = (right, inr right_unfolds, care_leaf q right right_unfolds tree care y stands)

pub sides_variables : SidesHaveAllVariables
sides_variables a b w p q left right variables kept left_unfolds right_unfolds are = side_variables a b w kept p q left right left_unfolds right_unfolds variables are
