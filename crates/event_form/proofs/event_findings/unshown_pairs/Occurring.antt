-- Which classes occur in the paths of event nodes.
use Rattle.std.proofs.Common.{◌≡◌, ◌∙◌, ◌+◌, ◌≤◌, ◌<◌, ℕ, zero, suc, List, [], ◌∷◌, length, slice_get, Some, sym, subst, arith, inl, inr}
use Rattle.std.specs.Prelude.{◌⊎◌, Contains}
use Rattle.circuit_theory.specs.Circuit.{IsLatch}
use Rattle.circuit_theory.specs.Run.{IsEnabled}
use Rattle.circuit_theory.proofs.Lists.{Contains-cases, Contains-head}
use Rattle.circuit_theory.specs.Classes.{HasClasses, classes_of}
use Rattle.circuit_theory.specs.Frame.{EventSide, IsNode, ReachedAt}
use Rattle.circuit_laws.proofs.event_laws.ClassMaps.{fold_each}
use Rattle.flat_net.proofs.Nets.{some_at}
use Rattle.event_nodes.specs.Nodes.{IsTree, path_of}
use Rattle.event_nodes.proofs.Paths.{child_path, path_grows}
use Rattle.event_form.specs.event_agreement.event_pairs.Functions.{AreNodesOf}
use Rattle.event_form.specs.event_findings.unshown_pairs.Classes.{IsEnteredAmong, IsEnteredBy}

module _ {P : Type 0} (s : EventSide P) (start : P → Type 0) where
  abbrev E : P → Type 0
  E = IsEnabled s.circuit

  -- the parent of an event node is one
  parent_node : (k : ℕ) (node : List ℕ) → IsNode s E start (k ∷ node) → IsNode s E start node
  parent_node k [] h = tt
  parent_node k (j ∷ node) h = (h.1.0, h.1.1, h.1.2)

  -- a class in its path is the last step of an event node
  pub step_node : (node : List ℕ) (k : ℕ) → IsNode s E start node → Contains node k → (rest : List ℕ) × IsNode s E start (k ∷ rest)
  step_node [] k node h = absurd (omega (arith, h.1))
  step_node (j ∷ node) k is h = go (Contains-cases j k node h) (λ m. step_node node k (parent_node j node is) m)
    where
      go : (j ≡ k) ⊎ Contains node k → (Contains node k → (rest : List ℕ) × IsNode s E start (k ∷ rest)) → (rest : List ℕ) × IsNode s E start (k ∷ rest)
      go (inl e) later = (node, subst (λ (i : ℕ). IsNode s E start (i ∷ node)) e is)
      go (inr m) later = later m

  module _ (children : List (ℕ × ℕ)) (tree : IsTree children) (nodes : List ℕ) (are : AreNodesOf s start children nodes) where
    -- the class by which a node is entered is the last step of its path
    entered_path : (node class : ℕ) → (e : IsEnteredBy children node class) → path_of children node ≡ class ∷ path_of children e.1
    entered_path node class e = child_path children tree e.1 class node (e.0, e.2, e.3)

    pub occurs_in : (class : ℕ) → IsEnteredAmong children nodes class → (node : List ℕ) × IsNode s E start node × Contains node class
    occurs_in class e =
        let n = (are.exactly e.0).0 e.1 in
        (path_of children e.0, n.1, subst (λ (path : List ℕ). Contains path class) (sym (entered_path e.0 class e.2)) (Contains-head class (path_of children e.2.1)))

    entered_at : (j class : ℕ) (rest : List ℕ) → j ≤ length children → path_of children j ≡ class ∷ rest → IsEnteredBy children j class
    entered_at zero class rest inside path = absurd (wrong (sym root ∙ path))
      where
        root : path_of children 0 ≡ []
        root = path_grows [] children 0 (omega arith)

        wrong : [] ≡ class ∷ rest → ⊥
        wrong q = cc
    entered_at (suc k) class rest inside path =
        let e = some_at children k (omega (arith, inside)) in
        let next : suc k ≡ k + 1 = omega arith in
        let own : path_of children (suc k) ≡ e.0.1 ∷ path_of children e.0.0 = child_path children tree e.0.0 e.0.1 (suc k) (k, next, e.1) in
        let same : e.0.1 ≡ class = first (sym own ∙ path) in
        (k, e.0.0, next, subst (λ (c : ℕ). slice_get children k ≡ Some (e.0.0, c)) same e.1)
      where
        first : {i j : ℕ} {us vs : List ℕ} → i ∷ us ≡ j ∷ vs → i ≡ j
        first q = cc

    pub occurs_from : (class : ℕ) (node : List ℕ) → IsNode s E start node → Contains node class → IsEnteredAmong children nodes class
    occurs_from class node is h =
        let x = step_node node class is h in
        let j = are.made (class ∷ x.0) x.1 in
        (j.0, (are.exactly j.0).1 (j.1, subst (IsNode s E start) (sym j.2) x.1), entered_at j.0 class x.0 j.1 j.2)

-- The class of a latch is no greater than the number of classes.
module _ {P : Type 0} (s : EventSide P) (classes : HasClasses s) where
  pub class_low : (name : List ℕ) (u next : P) → IsLatch s.circuit name u next → s.class u ≤ classes_of s classes.order
  class_low name u next latch = go (either (s.class u) (classes_of s classes.order))
    where
      either : (m n : ℕ) → (m ≤ n) ⊎ (n < m)
      either m n = grind arith

      off : classes_of s classes.order < s.class u → IsEnabled s.circuit u → ⊥
      off over enabled = let low : s.class u ≤ classes_of s classes.order = fold_each s.class 0 classes.order u (classes.is_order.all u enabled) in omega (arith, low, over)

      go : (s.class u ≤ classes_of s classes.order) ⊎ (classes_of s classes.order < s.class u) → s.class u ≤ classes_of s classes.order
      go (inl low) = low
      go (inr over) = absurd (let none : s.class u ≡ 0 = classes.is_map.plain name u next latch (off over) in omega (arith, none, over))

  -- and so is each class that occurs in the path of an event node that latches of signals reach
  pub occurring_low : (start : P → Type 0) → ((v : P) → start v → (name : List ℕ) × (next : P) × IsLatch s.circuit name v next) → (k : ℕ) (node : List ℕ) → IsNode s (IsEnabled s.circuit) start (k ∷ node) → k ≤ classes_of s classes.order
  occurring_low start latches k node h = let l = latch node h.0 h.1 in subst (λ (i : ℕ). i ≤ classes_of s classes.order) h.2 (class_low l.0 h.0 l.1 l.2)
    where
      latch : (path : List ℕ) (v : P) → ReachedAt s (IsEnabled s.circuit) start path v → (name : List ℕ) × (next : P) × IsLatch s.circuit name v next
      latch [] v r = latches v r
      latch (j ∷ path) v r = let c = r.3.3 in (c.0, c.1, c.2)
