-- What follows for the literal of an unfolded signal.
use Rattle.std.specs.Prelude.{◌≡◌, ◌≢◌, ℕ, ◌-◌, ◌+◌, ◌<◌, ◌≤◌, Bool, List, [], ◌∷◌, slice_get, Some, All, Contains}
use Rattle.std.specs.List.{AllPairs}
use Rattle.circuit_theory.specs.declared.Mode.TheVariants.{Plain}
use Rattle.circuit_theory.specs.Run.{IsRun}
use Rattle.circuit_theory.specs.Agree.{IsSettled}
use Rattle.circuit_theory.specs.Tree.{IsInputNumber}
use Rattle.circuit_theory.specs.Query.{assigned, same_shift, Variable}
use Rattle.circuit_theory.specs.Sequence.{sequence_rows, row_value, TakesInputs}
use Rattle.flat_net.specs.View.{NetView, circuit_of}
use Rattle.flat_net.specs.Sound.{IsSound}
use Rattle.base_tables.specs.Table.{AreDistinct}
use Rattle.aig.specs.declared.node.Node.{Node}
use Rattle.aig.specs.declared.node.Node.TheVariants.{Input}
use Rattle.aig.specs.Graph.{IsGraph, Grows}
use Rattle.aig.specs.Cone.{IsReached}
use Rattle.aig.specs.Values.{value}
use Rattle.aig.specs.Builds.{HasOneLitEach, HasTreeValues}
use Rattle.aig.specs.Adds.{Adds}
pub use Rattle.cbf_unfold.specs.unfold_places.Growing.{TakesBits}
use Rattle.cbf_unfold.specs.View.{UnfolderView}
use Rattle.cbf_unfold.specs.Unfolded.{IsUnfolded, Fits}

-- What fits goes on to fit while the graph and the table grow, whoever lets them grow.
abbrev pub FitsLater : Type 0
FitsLater = (u : UnfolderView) (g h : List Node) (places more : List (ℕ × ℕ)) → Grows g h → Adds (λ p. Unit {0}) places more → Fits u g places → Fits u h more

-- The same of an unfolded signal.
abbrev pub UnfoldedLater : Type 0
UnfoldedLater = (n : NetView) (order : List ℕ) (g h : List Node) (places more : List (ℕ × ℕ)) (s lit : ℕ) (vars : List ℕ) →
    Grows g h → Adds (λ p. Unit {0}) places more → IsUnfolded n order g places s lit vars → IsUnfolded n order h more s lit vars

-- Signals with equal trees have one literal on one graph and table, whichever net and unfolder they are of.
abbrev pub EqualTreesOneLiteral : Type 0
EqualTreesOneLiteral = (m n : NetView) (left right : List ℕ) (g : List Node) (places : List (ℕ × ℕ)) (s t x y : ℕ) (us vs : List ℕ) → HasOneLitEach g → AreDistinct places →
    (l : IsUnfolded m left g places s x us) (r : IsUnfolded n right g places t y vs) → l.tree ≡ r.tree → x ≡ y

-- In every run and every cycle in which the signal is settled, the literal has the run's value, where the variable of input i
-- at shift k is input i in cycle t - k.
abbrev pub LiteralIsRun : Type 0
LiteralIsRun = (n : NetView) (order : List ℕ) (g : List Node) (places : List (ℕ × ℕ)) (s x : ℕ) (vars : List ℕ) → IsSound n → HasTreeValues g → IsUnfolded n order g places s x vars →
    (count : ℕ) (run : ℕ → ℕ → Bool) → IsRun (circuit_of n) count run → (t : ℕ) → t < count → IsSettled Plain (circuit_of n) run t s →
    (bits : ℕ → ℕ → Bool) → ((p i k : ℕ) → IsInputNumber (circuit_of n) order p i → k ≤ t → bits i k ≡ run (t - k) p) →
    (a : ℕ → Bool) → TakesBits places bits a → value g a x ≡ run t s

-- For every assignment the distinguishing sequence gives the signal the literal's value, in every run and in the last cycle:
-- the sequence of so many inputs that ends in a cycle from the signal's depth on.
abbrev pub Windows : Type 0
Windows = (n : NetView) (order : List ℕ) (g : List Node) (places : List (ℕ × ℕ)) (s x : ℕ) (vars : List ℕ) → HasTreeValues g → (u : IsUnfolded n order g places s x vars) →
    (variables : List (Variable ℕ)) (bits : List Bool) (count last : ℕ) → All (λ y. y.input < count) variables → u.depth ≤ last →
    (length_of : ℕ) (run : ℕ → ℕ → Bool) → IsRun (circuit_of n) length_of run → last < length_of →
    TakesInputs (circuit_of n) order (row_value (sequence_rows last (assigned same_shift variables bits) count)) (last + 1) run →
    (a : ℕ → Bool) → TakesBits places (assigned same_shift variables bits) a → run last s ≡ value g a x

-- The variables are distinct, and cover the literal's cone: each variable that is reached from the literal is one of them.
abbrev pub VariablesCoverCone : Type 0
VariablesCoverCone = (n : NetView) (order : List ℕ) (g : List Node) (places : List (ℕ × ℕ)) (s x : ℕ) (vars : List ℕ) → IsGraph g → AreDistinct places → IsUnfolded n order g places s x vars →
    AllPairs (λ u v. u ≢ v) vars × ((k v : ℕ) → IsReached g (x ∷ []) k → slice_get g k ≡ Some (Input v) → Contains vars v)

-- What is reached from several literals is reached from one of them.
abbrev pub ReachedFromOne : Type 0
ReachedFromOne = (g : List Node) (roots : List ℕ) (k : ℕ) → IsReached g roots k → (x : ℕ) × Contains roots x × IsReached g (x ∷ []) k

-- No variable is reached from a constant.
abbrev pub ConstantReachesNone : Type 0
ConstantReachesNone = (g : List Node) (x : ℕ) → IsGraph g → x < 2 → (k v : ℕ) → IsReached g (x ∷ []) k → slice_get g k ≡ Some (Input v) → ⊥
