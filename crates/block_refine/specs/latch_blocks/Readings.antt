-- The variables by which a graph reads the inputs and the blocks of two nets.
use Rattle.std.specs.Prelude.{◌≡◌, ℕ, ◌+◌, ◌<◌, Bool, List, length, slice_get, Some}
use Rattle.std.specs.List.{All}
use Rattle.circuit_theory.specs.Joined.{Either, Left, Right}
use Rattle.sec_base.specs.declared.basics.Orders.{Orders}
use Rattle.flat_net.specs.View.{NetView}
use Rattle.block_refine.specs.latch_blocks.Blocks.{block_at}
use Rattle.block_refine.specs.declared.latch_blocks.variables.Variables.{Variables}
use Rattle.block_refine.specs.latch_blocks.Signals.{IsReading}

-- An input's variable is its number, and a latch's is its block's number, counted from one that is above all inputs' numbers.
pub record AreBlockVariables (a b : NetView) (orders : Orders) (first : ℕ) (blocks : List ℕ) (left right : Variables) : Type 0 where
  pub left_inputs : left.inputs ≡ orders.left
  pub right_inputs : right.inputs ≡ orders.right
  pub left_latches : (j k : ℕ) → slice_get left.latches j ≡ Some k → k ≡ first + block_at blocks j
  pub right_latches : (j k : ℕ) → slice_get right.latches j ≡ Some k → k ≡ first + block_at blocks (length a.latches + j)
  pub above_left : All (λ i. i < first) orders.left
  pub above_right : All (λ i. i < first) orders.right

-- the values of both nets' signals are those where each input and each latch has its variable's bit
abbrev pub AreRead : NetView → NetView → Variables → Variables → (ℕ → Bool) → (Either ℕ ℕ → Bool) → Type 0
AreRead a b left right v x = IsReading a left v (λ s. x (Left s)) × IsReading b right v (λ s. x (Right s))
