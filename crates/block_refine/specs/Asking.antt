-- What is asked of two latches.
use Rattle.std.specs.Prelude.{◌≡◌, ◌≢◌, ℕ, Bool, List, map, slice_get, Some}
use Rattle.circuit_theory.specs.Joined.{Either}
use Rattle.pair_decide.specs.declared.query.Query.{Query}
use Rattle.pair_decide.specs.declared.query.Proof.{Proof}
use Rattle.pair_decide.specs.Answers.{IsAtLimit}
use Rattle.block_refine.specs.latch_blocks.Partitions.{nexts_of}
use Rattle.block_refine.specs.declared.block_graph.nets.BlockNets.{BlockNets}
use Rattle.block_refine.specs.declared.block_graph.graph.BlockGraph.{BlockGraph}
use Rattle.block_refine.specs.block_graph.Comparing.{AgreeOver, AreConstant, AreOwn, IsLitIn}
use Rattle.block_refine.specs.declared.ask.Answer.{Answer}
use Rattle.block_refine.specs.declared.ask.Answer.TheVariants as answer

-- what the latch at a place takes over
abbrev pub IsNext : BlockNets → ℕ → Either ℕ ℕ → Type 0
IsNext n j p = slice_get (nexts_of n.left.now n.right.now) j ≡ Some p

-- the two latches take over one value, for all values that are constant on the blocks
abbrev pub TakeOneValue : BlockNets → ℕ → ℕ → Type 0
TakeOneValue n i j = (p q : Either ℕ ℕ) → IsNext n i p → IsNext n j q → AgreeOver n p q

-- values that are constant on the blocks tell apart what the two latches take over, and these bits are what all latches take over
pub record TellApart (n : BlockNets) (i j : ℕ) (bits : List Bool) : Type 0 where
  pub x : Either ℕ ℕ → Bool
  pub constant : AreConstant n x
  pub bits_are : bits ≡ map x (nexts_of n.left.now n.right.now)
  pub apart : (p q : Either ℕ ℕ) → IsNext n i p → IsNext n j q → x p ≢ x q

-- the query of what the two latches take over, with care 1 and exactly their variables, met the limit
pub record IsLimitAt (n : BlockNets) (g : BlockGraph) (conflicts i j : ℕ) (proof : Proof) : Type 0 where
  pub p : Either ℕ ℕ
  pub q : Either ℕ ℕ
  pub p_is : IsNext n i p
  pub q_is : IsNext n j q
  pub query : Query
  pub left : IsLitIn g p query.left
  pub right : IsLitIn g q query.right
  pub care : query.care.0 ≡ 1
  pub own : AreOwn n g p q query.vars
  pub limit : IsAtLimit g.aig query conflicts proof

-- the answer is right
abbrev pub IsAnswer : BlockNets → BlockGraph → ℕ → ℕ → ℕ → Answer → Type 0
IsAnswer n g conflicts i j answer.Agree = TakeOneValue n i j
IsAnswer n g conflicts i j (answer.Apart bits) = TellApart n i j bits.items
IsAnswer n g conflicts i j (answer.Limit proof) = IsLimitAt n g conflicts i j proof
