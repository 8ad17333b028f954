-- Two signals compared over the blocks.
use Rattle.std.specs.Prelude.{◌≡◌, ◌⊎◌, ◌↔◌, ℕ, ◌<◌, Bool, List}
use Rattle.std.specs.List.{All, Contains}
use Rattle.std.specs.List.Sorted.{IsStrictlyIncreasing}
use Rattle.circuit_theory.specs.Joined.{Either, Left, Right}
use Rattle.aig.specs.declared.node.Lit.{Lit}
use Rattle.aig.specs.Values.{value}
use Rattle.pair_decide.specs.declared.query.Query.{Query}
use Rattle.pair_decide.specs.Answers.{Decides}
use Rattle.flat_net.specs.View.{NetView}
use Rattle.block_refine.specs.declared.latch_blocks.variables.Variables.{Variables}
use Rattle.block_refine.specs.latch_blocks.Signals.{IsLeaf}
use Rattle.block_refine.specs.latch_blocks.QueryLaws.{IsLitAt, AreBlockValues}
use Rattle.block_refine.specs.declared.block_graph.nets.BlockNets.{BlockNets}
use Rattle.block_refine.specs.declared.block_graph.graph.BlockGraph.{BlockGraph}
use Rattle.block_refine.specs.declared.block_graph.compare.Comparison.{Comparison}

-- the literal of a signal
abbrev pub IsLitIn : BlockGraph → Either ℕ ℕ → Lit → Type 0
IsLitIn g p x = IsLitAt g.left.lits.items g.right.lits.items p x

-- the variable is that of an input or a latch that the signal is reached from
abbrev pub IsVariableAt : NetView → NetView → Variables → Variables → Either ℕ ℕ → ℕ → Type 0
IsVariableAt a b left right (Left s) k = IsLeaf a left s k
IsVariableAt a b left right (Right s) k = IsLeaf b right s k

-- the same on a graph of both nets
abbrev pub IsVariableOf : BlockNets → BlockGraph → Either ℕ ℕ → ℕ → Type 0
IsVariableOf n g p k = IsVariableAt n.left.now n.right.now g.left.variables g.right.variables p k

-- exactly the variables of both signals, increasing
pub record AreOwn (n : BlockNets) (g : BlockGraph) (p q : Either ℕ ℕ) (vars : List ℕ) : Type 0 where
  pub increasing : IsStrictlyIncreasing vars
  pub each : (k : ℕ) → Contains vars k ↔ (IsVariableOf n g p k ⊎ IsVariableOf n g q k)
  pub below : All (λ k. k < g.limit) vars

-- The query of two signals over the blocks, with care 1, and its answer.
pub record IsComparison (n : BlockNets) (g : BlockGraph) (p q : Either ℕ ℕ) (conflicts : ℕ) (c : Comparison) : Type 0 where
  pub query : Query
  pub left : IsLitIn g p query.left
  pub right : IsLitIn g q query.right
  pub care : query.care.0 ≡ 1
  pub vars : query.vars ≡ c.vars
  pub own : AreOwn n g p q c.vars
  pub decided : Decides g.aig query conflicts c.decision

-- values of both nets that meet all gates and are constant on the blocks
abbrev pub AreConstant : BlockNets → (Either ℕ ℕ → Bool) → Type 0
AreConstant n x = AreBlockValues n.left.now n.right.now n.orders.now n.blocks.now x

-- the signals have one value for all values that are constant on the blocks
abbrev pub AgreeOver : BlockNets → Either ℕ ℕ → Either ℕ ℕ → Type 0
AgreeOver n p q = (x : Either ℕ ℕ → Bool) → AreConstant n x → x p ≡ x q

-- values that are constant on the blocks and have the literals' values under the assignment
pub record AreReadBy (n : BlockNets) (g : BlockGraph) (v : ℕ → Bool) (x : Either ℕ ℕ → Bool) : Type 0 where
  pub constant : AreConstant n x
  pub lits : (p : Either ℕ ℕ) (l : Lit) → IsLitIn g p l → x p ≡ value g.aig v l.0

-- exactly the variables of a signal
abbrev pub AreLeavesOf : BlockNets → BlockGraph → Either ℕ ℕ → List ℕ → Type 0
AreLeavesOf n g p vars = (k : ℕ) → Contains vars k ↔ IsVariableOf n g p k
