-- The queries of a comparison in the event form. A query's care is a test that holds exactly in the frames with care.
use Rattle.std.specs.Prelude.{◌≡◌, ℕ, ◌↔◌, Bool, true, List, [], None}
use Rattle.circuit_theory.specs.Run.{IsEnabled}
use Rattle.circuit_theory.specs.Tree.{Tree, tree_value}
use Rattle.circuit_theory.specs.Query.{Query}
use Rattle.circuit_theory.specs.Frame.{EventSide, EventUnfolds, ConeLatches, HasCare}
use Rattle.circuit_theory.specs.Classes.{EnableCare, EnableAtRoot}

-- is the enable of one latch that of another, wherever both have care?
pub record IsClassQuery {P : Type 0} (s : EventSide P) (u v : P) (query : Query (List ℕ)) : Type 0 where
  pub left : (bits : ℕ → List ℕ → Bool) → EnableAtRoot s bits u (query.left bits)
  pub right : (bits : ℕ → List ℕ → Bool) → EnableAtRoot s bits v (query.right bits)
  pub care : (bits : ℕ → List ℕ → Bool) → (query.care bits ≡ true) ↔ (EnableCare s bits u × EnableCare s bits v)

-- is the enable of a latch 1, wherever it has care?
pub record IsAlwaysQuery {P : Type 0} (s : EventSide P) (u : P) (query : Query (List ℕ)) : Type 0 where
  pub left : (bits : ℕ → List ℕ → Bool) → EnableAtRoot s bits u (query.left bits)
  pub right : (bits : ℕ → List ℕ → Bool) → query.right bits ≡ true
  pub care : (bits : ℕ → List ℕ → Bool) → (query.care bits ≡ true) ↔ EnableCare s bits u

-- are the functions of a pair one, wherever both have care?
pub record IsEventPairQuery {P : Type 0} (s : EventSide P) (p q : P) (query : Query (List ℕ)) : Type 0 where
  pub left_tree : Tree (List ℕ)
  pub right_tree : Tree (List ℕ)
  pub left_unfolds : EventUnfolds s (IsEnabled s.circuit) None p [] left_tree
  pub right_unfolds : EventUnfolds s (IsEnabled s.circuit) None q [] right_tree
  pub left : (bits : ℕ → List ℕ → Bool) → query.left bits ≡ tree_value bits left_tree
  pub right : (bits : ℕ → List ℕ → Bool) → query.right bits ≡ tree_value bits right_tree
  pub care : (bits : ℕ → List ℕ → Bool) → (query.care bits ≡ true) ↔
      (HasCare s (IsEnabled s.circuit) (ConeLatches s.circuit p) bits × HasCare s (IsEnabled s.circuit) (ConeLatches s.circuit q) bits)
