-- What a circuit has by itself, and where it stands in a greater one.
use Rattle.std.specs.Prelude.{ℕ, ◌↔◌, Bool, List, Option, Some, None}
use Rattle.circuit_theory.specs.Run.{IsEnabled}
use Rattle.circuit_theory.specs.Tree.{Tree}
use Rattle.circuit_theory.specs.Frame.{EventSide, EventUnfolds, ConeLatches, IsEnable, HasCare}

-- the latch that is read as a constant, moved
abbrev pub moved_put : {P R : Type 0} → (P → R) → Option (P × Bool) → Option (R × Bool)
moved_put f None = None
moved_put f (Some x) = Some (f x.0, x.1)

-- its unfoldings, enables and cares are the same in both
pub record UnfoldsAsPart {P R : Type 0} (s : EventSide P) (t : EventSide R) (f : P → R) : Type 0 where
  pub trees : (put : Option (P × Bool)) (p : P) (node : List ℕ) (tree : Tree (List ℕ)) → EventUnfolds s (IsEnabled s.circuit) put p node tree ↔ EventUnfolds t (IsEnabled t.circuit) (moved_put f put) (f p) node tree
  pub enables : (bits : ℕ → List ℕ → Bool) (u : P) (node : List ℕ) (bit : Bool) → IsEnable s (IsEnabled s.circuit) bits u node bit ↔ IsEnable t (IsEnabled t.circuit) bits (f u) node bit
  pub cares : (p : P) (bits : ℕ → List ℕ → Bool) → HasCare s (IsEnabled s.circuit) (ConeLatches s.circuit p) bits ↔ HasCare t (IsEnabled t.circuit) (ConeLatches t.circuit (f p)) bits
