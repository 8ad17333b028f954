-- What comes of the refinement of the partition by initial values.
use Rattle.std.specs.Prelude.{◌≡◌, ◌⊎◌, ◌↔◌, ℕ, ◌+◌, ◌<◌, List, ◌++◌, length, slice_get, Some}
use Rattle.std.specs.List.{Contains}
use Rattle.std.specs.List.Sorted.{IsStrictlyIncreasing}
use Rattle.circuit_theory.specs.Joined.{Either, joined}
use Rattle.circuit_theory.specs.Blocks.{IsCoarsest}
use Rattle.sec_base.specs.declared.basics.Orders.{Orders}
use Rattle.flat_net.specs.View.{NetView, circuit_of}
use Rattle.aig.specs.declared.node.Lit.{Lit}
use Rattle.aig.specs.declared.node.Node.{Node}
use Rattle.aig.specs.Graph.{IsGraph}
use Rattle.pair_decide.specs.declared.query.Query.{Query}
use Rattle.pair_decide.specs.Answers.{IsAtLimit}
use Rattle.block_refine.specs.declared.latch_blocks.variables.Variables.{Variables}
use Rattle.block_refine.specs.latch_blocks.Blocks.{block_at, AreInOrder}
use Rattle.block_refine.specs.latch_blocks.Partitions.{block_of, nexts_of, IsOnTheWay}
use Rattle.block_refine.specs.latch_blocks.QueryLaws.{IsLitAt, AreOnGraph}
use Rattle.block_refine.specs.latch_blocks.Laws.{pairs_alike}
use Rattle.block_refine.specs.block_graph.Comparing.{IsVariableAt}
use Rattle.block_refine.specs.declared.pass.Round.{Round}
use Rattle.block_refine.specs.declared.pass.Round.TheVariants as round
use Rattle.block_refine.specs.declared.refinement.SplitLimit.{SplitLimit}
use Rattle.block_refine.specs.declared.refinement.Refined.{Refined}
use Rattle.block_refine.specs.declared.refinement.Refined.TheVariants as refined

-- The coarsest inductive partition, as a list of the latches' blocks in the order of first members.
pub record AreCoarsest (a b : NetView) (orders : Orders) (blocks : List ℕ) : Type 0 where
  pub each : length blocks ≡ length a.latches + length b.latches
  pub in_order : AreInOrder blocks
  pub coarsest : IsCoarsest (joined (circuit_of a) (circuit_of b)) (orders.left ++ orders.right) (block_of a b blocks)

-- exactly the variables of both signals, increasing
pub record AreVariablesOf (a b : NetView) (left right : Variables) (p q : Either ℕ ℕ) (vars : List ℕ) : Type 0 where
  pub increasing : IsStrictlyIncreasing vars
  pub each : (k : ℕ) → Contains vars k ↔ (IsVariableAt a b left right p k ⊎ IsVariableAt a b left right q k)

-- A partition on the way, and two latches of one of its blocks: the query of what they take over met the limit, with care 1 and exactly
-- their variables, over a graph where each input is its number and all latches of a block are one variable.
pub record IsSplitLimit (a b : NetView) (orders : Orders) (conflicts : ℕ) (l : SplitLimit) : Type 0 where
  pub way : IsOnTheWay a b (orders.left ++ orders.right) l.blocks
  pub inside : (l.left < length l.blocks) × (l.right < length l.blocks)
  pub beside : block_at l.blocks l.left ≡ block_at l.blocks l.right
  pub p : Either ℕ ℕ
  pub q : Either ℕ ℕ
  pub p_is : slice_get (nexts_of a b) l.left ≡ Some p
  pub q_is : slice_get (nexts_of a b) l.right ≡ Some q
  pub graph : List Node
  pub is_graph : IsGraph graph
  pub left_lits : List Lit
  pub right_lits : List Lit
  pub on : AreOnGraph a b orders l.blocks graph left_lits right_lits
  pub query : Query
  pub left : IsLitAt left_lits right_lits p query.left
  pub right : IsLitAt left_lits right_lits q query.right
  pub care : query.care.0 ≡ 1
  pub own : AreVariablesOf a b on.left on.right p q query.vars
  pub limit : IsAtLimit graph query conflicts l.proof

-- what comes of the refinement
abbrev pub IsRefined : NetView → NetView → Orders → ℕ → Refined → Type 0
IsRefined a b orders conflicts (refined.Inductive blocks) = AreCoarsest a b orders blocks
IsRefined a b orders conflicts (refined.Limit l) = IsSplitLimit a b orders conflicts l

-- what comes of a pass over a partition on the way
abbrev pub IsTurn : NetView → NetView → Orders → List ℕ → ℕ → Round → Type 0
IsTurn a b orders blocks conflicts round.Same = AreCoarsest a b orders blocks
IsTurn a b orders blocks conflicts (round.Split fine) = IsOnTheWay a b (orders.left ++ orders.right) fine × (pairs_alike fine < pairs_alike blocks)
IsTurn a b orders blocks conflicts (round.Limit i j proof) = IsSplitLimit a b orders conflicts (record { blocks = blocks; left = i; right = j; proof = proof })
