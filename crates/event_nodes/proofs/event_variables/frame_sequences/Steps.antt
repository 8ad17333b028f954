-- Up from an event node, by steps of class 0.
use Rattle.std.proofs.Common.{◌≡◌, ◌≢◌, ◌∙◌, ◌+◌, ◌-◌, ◌<◌, ◌≤◌, ℕ, zero, suc, List, [], ◌∷◌, ◌++◌, slice_get, Some, refl, sym, ap, arith, add-one, append-nil}
use Rattle.circuit_theory.specs.Frame.{always_node}
use Rattle.event_nodes.specs.Nodes.{path_of, IsTree}
use Rattle.event_nodes.proofs.event_variables.Climbing.{parent_lower, parent_child, root_path}

-- so many steps of class 0 lead from here to the node
pub record IsClimbed (children : List (ℕ × ℕ)) (node at steps : ℕ) : Type 0 where
  pub path : path_of children node ≡ always_node steps ++ path_of children at
  pub few : steps + at ≤ node

one_more : (steps : ℕ) (rest : List ℕ) → always_node steps ++ 0 ∷ rest ≡ always_node (suc steps) ++ rest
one_more zero rest = refl
one_more (suc steps) rest = ap (λ (xs : List ℕ). 0 ∷ xs) (one_more steps rest)

-- a step of another class is none of them
other_step : (steps k class : ℕ) (rest : List ℕ) → class ≢ 0 → always_node steps ++ class ∷ rest ≢ always_node k
other_step zero zero class rest other same = absurd (differ same)
  where
    differ : class ∷ rest ≡ [] → ⊥
    differ e = cc
other_step zero (suc k) class rest other same = other (head same)
  where
    head : class ∷ rest ≡ 0 ∷ always_node k → class ≡ 0
    head e = cc
other_step (suc steps) zero class rest other same = absurd (differ same)
  where
    differ : 0 ∷ (always_node steps ++ class ∷ rest) ≡ [] → ⊥
    differ e = cc
other_step (suc steps) (suc k) class rest other same = other_step steps k class rest other (tail same)
  where
    tail : 0 ∷ (always_node steps ++ class ∷ rest) ≡ 0 ∷ always_node k → always_node steps ++ class ∷ rest ≡ always_node k
    tail e = cc

pub climbed_more : (children : List (ℕ × ℕ)) → IsTree children → (node at steps : ℕ) (e : ℕ × ℕ) → IsClimbed children node at steps → 0 < at → slice_get children (at - 1) ≡ Some e → e.1 ≡ 0 → IsClimbed children node e.0 (steps + 1)
climbed_more children tree node at steps e is some here always =
    let lower = parent_lower children tree at e some here in
    record {
      path = is.path ∙ (ap (λ (xs : List ℕ). always_node steps ++ xs) (parent_child children tree at e some here ∙ ap (λ c. c ∷ path_of children e.0) always)
          ∙ (one_more steps (path_of children e.0) ∙ ap (λ k. always_node k ++ path_of children e.0) (sym (add-one steps))));
      few = omega (arith, is.few, lower);
    }

pub climbed_none : (children : List (ℕ × ℕ)) → IsTree children → (node at steps : ℕ) (e : ℕ × ℕ) → IsClimbed children node at steps → 0 < at → slice_get children (at - 1) ≡ Some e → e.1 ≢ 0 → (k : ℕ) → path_of children node ≢ always_node k
climbed_none children tree node at steps e is some here other k same =
    other_step steps k e.1 (path_of children e.0) other (sym (is.path ∙ ap (λ (xs : List ℕ). always_node steps ++ xs) (parent_child children tree at e some here)) ∙ same)

pub climbed_all : (children : List (ℕ × ℕ)) (node at steps : ℕ) → IsClimbed children node at steps → at ≤ 0 → path_of children node ≡ always_node steps
climbed_all children node at steps is top = is.path ∙ (ap (λ (xs : List ℕ). always_node steps ++ xs) (root_path children at top) ∙ append-nil (always_node steps))
