-- Assignments of the variables of inputs and blocks, and values of both nets that are constant on the blocks.
use Rattle.std.specs.Prelude.{◌≡◌, ℕ, Bool, List, ◌++◌, length}
use Rattle.circuit_theory.specs.Circuit.{Meets}
use Rattle.circuit_theory.specs.Joined.{Either, joined}
use Rattle.circuit_theory.specs.Blocks.{IsConstantOn}
use Rattle.sec_base.specs.declared.basics.Orders.{Orders}
use Rattle.flat_net.specs.View.{NetView, circuit_of}
use Rattle.flat_net.specs.Sound.{IsSound}
use Rattle.block_refine.specs.declared.latch_blocks.variables.Variables.{Variables}
use Rattle.block_refine.specs.latch_blocks.Partitions.{block_of}
use Rattle.block_refine.specs.latch_blocks.Readings.{AreBlockVariables, AreRead}

-- Each assignment is that of values which meet all gates and are constant on the blocks.
abbrev pub ReadingsAreValues : Type 0
ReadingsAreValues = (a b : NetView) → IsSound a → IsSound b → (orders : Orders) → length orders.left ≡ length a.inputs → length orders.right ≡ length b.inputs →
    (first : ℕ) (blocks : List ℕ) (left right : Variables) → AreBlockVariables a b orders first blocks left right → (v : ℕ → Bool) →
    (x : Either ℕ ℕ → Bool) × Meets (joined (circuit_of a) (circuit_of b)) x × IsConstantOn (joined (circuit_of a) (circuit_of b)) (orders.left ++ orders.right) (block_of a b blocks) x × AreRead a b left right v x

-- Values that meet all gates and are constant on the blocks are those of an assignment.
abbrev pub ValuesHaveReadings : Type 0
ValuesHaveReadings = (a b : NetView) → IsSound a → IsSound b → (orders : Orders) → length orders.left ≡ length a.inputs → length orders.right ≡ length b.inputs →
    (first : ℕ) (blocks : List ℕ) (left right : Variables) → AreBlockVariables a b orders first blocks left right → (x : Either ℕ ℕ → Bool) →
    Meets (joined (circuit_of a) (circuit_of b)) x → IsConstantOn (joined (circuit_of a) (circuit_of b)) (orders.left ++ orders.right) (block_of a b blocks) x → (v : ℕ → Bool) × AreRead a b left right v x
