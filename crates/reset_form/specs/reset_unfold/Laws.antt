-- What follows for the literal of a signal that is unfolded in a cycle.
use Rattle.std.specs.Prelude.{◌≡◌, ◌≢◌, ℕ, ◌+◌, ◌<◌, ◌≤◌, Bool, List, [], ◌∷◌, slice_get, Some, Contains}
use Rattle.std.specs.List.{AllPairs}
use Rattle.circuit_theory.specs.Cone.{latches_of}
use Rattle.circuit_theory.specs.Run.{IsResetRun}
use Rattle.circuit_theory.specs.Tree.{IsInputNumber}
use Rattle.circuit_laws.specs.reset_laws.Reset.{IsFree}
use Rattle.base_tables.specs.Table.{AreDistinct}
use Rattle.flat_net.specs.View.{NetView, circuit_of}
use Rattle.aig.specs.declared.node.Node.{Node}
use Rattle.aig.specs.declared.node.Node.TheVariants.{Input}
use Rattle.aig.specs.Graph.{IsGraph, Grows}
use Rattle.aig.specs.Cone.{IsReached}
use Rattle.aig.specs.Values.{value}
use Rattle.aig.specs.Builds.{HasOneLitEach, HasTreeValues}
use Rattle.cbf_unfold.specs.unfold_places.Reach.{Adds}
use Rattle.cbf_unfold.specs.unfold_places.Growing.{TakesBits}
use Rattle.reset_form.specs.reset_unfold.View.{ResetView}
use Rattle.reset_form.specs.reset_unfold.Unfolded.{IsResetUnfolded, FitsReset}

-- What fits goes on to fit while the graph and the table grow, whoever lets them grow.
abbrev pub ResetFitsLater : Type 0
ResetFitsLater = (u : ResetView) (g h : List Node) (places more : List (ℕ × ℕ)) → Grows g h → Adds (λ p. Unit {0}) places more → FitsReset u g places → FitsReset u h more

-- The same of an unfolded signal.
abbrev pub ResetUnfoldedLater : Type 0
ResetUnfoldedLater = (n : NetView) (order : List ℕ) (base : ℕ) (g h : List Node) (places more : List (ℕ × ℕ)) (s cycle lit : ℕ) (vars : List ℕ) →
    Grows g h → Adds (λ p. Unit {0}) places more → IsResetUnfolded n order base g places s cycle lit vars → IsResetUnfolded n order base h more s cycle lit vars

-- Signals with equal trees have one literal on one graph and table, whichever net, unfolder and cycle they are of.
abbrev pub EqualResetTreesOneLiteral : Type 0
EqualResetTreesOneLiteral = (m n : NetView) (left right : List ℕ) (left_base right_base : ℕ) (g : List Node) (places : List (ℕ × ℕ)) (s t k l x y : ℕ) (us vs : List ℕ) → HasOneLitEach g → AreDistinct places →
    (p : IsResetUnfolded m left left_base g places s k x us) (q : IsResetUnfolded n right right_base g places t l y vs) → p.tree ≡ q.tree → x ≡ y

-- In every run from the initial values the literal has the run's value in its cycle, where the variable of input i in cycle k is
-- that input there, and the variable of a latch without an initial value is the latch in cycle 0.
abbrev pub ResetLiteralIsRun : Type 0
ResetLiteralIsRun = (n : NetView) (order : List ℕ) (base : ℕ) (g : List Node) (places : List (ℕ × ℕ)) (s t x : ℕ) (vars : List ℕ) → HasTreeValues g → IsResetUnfolded n order base g places s t x vars →
    (count : ℕ) (run : ℕ → ℕ → Bool) → IsResetRun (circuit_of n) count run → t < count →
    (bits : ℕ → ℕ → Bool) → ((p i k : ℕ) → IsInputNumber (circuit_of n) order p i → k ≤ t → bits i k ≡ run k p) →
    ((j u : ℕ) → slice_get (latches_of (circuit_of n)) j ≡ Some u → IsFree (circuit_of n) u → bits (base + j) 0 ≡ run 0 u) →
    (a : ℕ → Bool) → TakesBits places bits a → value g a x ≡ run t s

-- The variables are distinct, and cover the literal's cone: each variable that is reached from the literal is one of them.
abbrev pub ResetVariablesCoverCone : Type 0
ResetVariablesCoverCone = (n : NetView) (order : List ℕ) (base : ℕ) (g : List Node) (places : List (ℕ × ℕ)) (s cycle x : ℕ) (vars : List ℕ) → IsGraph g → AreDistinct places → IsResetUnfolded n order base g places s cycle x vars →
    AllPairs (λ u v. u ≢ v) vars × ((k v : ℕ) → IsReached g (x ∷ []) k → slice_get g k ≡ Some (Input v) → Contains vars v)
