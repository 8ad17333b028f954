-- What stands behind the answers on a pair in the event form.
use Rattle.std.specs.Prelude.{◌≡◌, ◌≢◌, ℕ, ◌≤◌, max, Bool, false, List, [], ◌++◌, None}
use Rattle.circuit_theory.specs.Circuit.{Circuit}
use Rattle.circuit_theory.specs.Run.{IsEnabled}
use Rattle.circuit_theory.specs.Depth.{IsDepth}
use Rattle.circuit_theory.specs.Tree.{Tree, tree_value}
use Rattle.circuit_theory.specs.Sequence.{sequence_rows}
use Rattle.circuit_theory.specs.Joined.{Either, Left, Right, joined}
use Rattle.circuit_theory.specs.Asked.{AreEqual}
use Rattle.circuit_theory.specs.EventFrames.{event_pair}
use Rattle.circuit_theory.specs.Frame.{EventSide, EventUnfolds, ConeLatches, ReachedAt, bits_as_shifts}

-- two circuits side by side as the event form sees them: the numbers of A's inputs come first
abbrev pub side_by_side : {P Q : Type 0} → Circuit P → Circuit Q → List ℕ → List ℕ → (Either P Q → ℕ) → EventSide (Either P Q)
side_by_side a b left right class = record { circuit = joined a b; order = left ++ right; class = class }

-- both places unfold in the event form, to functions that agree in each frame with care for both
abbrev pub HaveEqualEvents : {P : Type 0} → EventSide P → P → P → Type 0
HaveEqualEvents s p q = AreEqual (event_pair s p q)

-- only latches of class 0 are reached
abbrev pub ReachesAlways : {P : Type 0} → EventSide P → P → Type 0
ReachesAlways {P} s p = (node : List ℕ) (u : P) → ReachedAt s (IsEnabled s.circuit) (ConeLatches s.circuit p) node u → s.class u ≡ 0

-- What stands behind a sequence that is printed for a pair in the event form, where both sides reach class 0 alone: both sides unfold,
-- the functions differ in a frame, and the rows for so many inputs are the sequence of the frame's bits, a node being so many steps of
-- class 0. The last cycle is the greater of both depths.
pub record IsEventWitness {P Q : Type 0} (s : EventSide (Either P Q)) (p : P) (q : Q) (count : ℕ) (rows : List (List Bool)) (last : ℕ) (l r : Bool) : Type 0 where
  pub left_depth : ℕ
  pub right_depth : ℕ
  pub left_tree : Tree (List ℕ)
  pub right_tree : Tree (List ℕ)
  pub left_is : IsDepth s.circuit (IsEnabled s.circuit) (Left p) left_depth
  pub right_is : IsDepth s.circuit (IsEnabled s.circuit) (Right q) right_depth
  pub left_unfolds : EventUnfolds s (IsEnabled s.circuit) None (Left p) [] left_tree
  pub right_unfolds : EventUnfolds s (IsEnabled s.circuit) None (Right q) [] right_tree
  pub left_always : ReachesAlways s (Left p)
  pub right_always : ReachesAlways s (Right q)
  pub last_is : last ≡ max left_depth right_depth
  pub bits : ℕ → List ℕ → Bool
  pub above : (i k : ℕ) → count ≤ i → bits_as_shifts bits i k ≡ false
  pub rows_are : rows ≡ sequence_rows last (bits_as_shifts bits) count
  pub left_value : l ≡ tree_value bits left_tree
  pub right_value : r ≡ tree_value bits right_tree
  pub differ : l ≢ r
