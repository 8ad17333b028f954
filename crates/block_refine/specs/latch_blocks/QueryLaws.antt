-- What literals of signals say of values that are constant on the blocks.
use Rattle.std.specs.Prelude.{◌≡◌, ℕ, Bool, List, ◌++◌, length, slice_get, Some}
use Rattle.circuit_theory.specs.Circuit.{Meets}
use Rattle.circuit_theory.specs.Joined.{Either, Left, Right, joined}
use Rattle.circuit_theory.specs.Blocks.{IsConstantOn}
use Rattle.sec_base.specs.declared.basics.Orders.{Orders}
use Rattle.flat_net.specs.View.{NetView, circuit_of}
use Rattle.flat_net.specs.Sound.{IsSound}
use Rattle.aig.specs.declared.node.Lit.{Lit}
use Rattle.aig.specs.declared.node.Node.{Node}
use Rattle.aig.specs.Values.{value}
use Rattle.block_refine.specs.declared.latch_blocks.variables.Variables.{Variables}
use Rattle.block_refine.specs.latch_blocks.Signals.{AreSignalLits}
use Rattle.block_refine.specs.latch_blocks.Partitions.{block_of}
use Rattle.block_refine.specs.latch_blocks.Readings.{AreBlockVariables}

-- the literal is that of the signal of A or of B
abbrev pub IsLitAt : List Lit → List Lit → Either ℕ ℕ → Lit → Type 0
IsLitAt left_lits right_lits (Left s) x = slice_get left_lits s ≡ Some x
IsLitAt left_lits right_lits (Right s) x = slice_get right_lits s ≡ Some x

-- Two nets on one graph, where each input is its number and all latches of a block are one variable.
pub record AreOnGraph (a b : NetView) (orders : Orders) (blocks : List ℕ) (g : List Node) (left_lits right_lits : List Lit) : Type 0 where
  pub first : ℕ
  pub left : Variables
  pub right : Variables
  pub variables : AreBlockVariables a b orders first blocks left right
  pub left_long : length orders.left ≡ length a.inputs
  pub right_long : length orders.right ≡ length b.inputs
  pub left_lits_are : AreSignalLits a left g left_lits
  pub right_lits_are : AreSignalLits b right g right_lits

-- values of both nets that meet all gates and are constant on the blocks
abbrev pub AreBlockValues : NetView → NetView → Orders → List ℕ → (Either ℕ ℕ → Bool) → Type 0
AreBlockValues a b orders blocks x = Meets (joined (circuit_of a) (circuit_of b)) x × IsConstantOn (joined (circuit_of a) (circuit_of b)) (orders.left ++ orders.right) (block_of a b blocks) x

-- Where two literals have one value under each assignment, their signals have one value for all values that are constant on the blocks.
abbrev pub SameLiteralsAgree : Type 0
SameLiteralsAgree = (a b : NetView) → IsSound a → IsSound b → (orders : Orders) (blocks : List ℕ) (g : List Node) (left_lits right_lits : List Lit) → AreOnGraph a b orders blocks g left_lits right_lits →
    (p q : Either ℕ ℕ) (l r : Lit) → IsLitAt left_lits right_lits p l → IsLitAt left_lits right_lits q r → ((v : ℕ → Bool) → value g v l.0 ≡ value g v r.0) → (x : Either ℕ ℕ → Bool) → AreBlockValues a b orders blocks x → x p ≡ x q

-- An assignment is that of values that are constant on the blocks, in which each signal has its literal's value.
abbrev pub AssignmentsAreBlockValues : Type 0
AssignmentsAreBlockValues = (a b : NetView) → IsSound a → IsSound b → (orders : Orders) (blocks : List ℕ) (g : List Node) (left_lits right_lits : List Lit) → AreOnGraph a b orders blocks g left_lits right_lits →
    (v : ℕ → Bool) → (x : Either ℕ ℕ → Bool) × AreBlockValues a b orders blocks x × ((p : Either ℕ ℕ) (l : Lit) → IsLitAt left_lits right_lits p l → x p ≡ value g v l.0)
