-- What the queries of outputs say of values that are constant on the blocks.
use Rattle.std.specs.Prelude.{◌≡◌, ◌≢◌, ℕ, Bool, Some}
use Rattle.circuit_theory.specs.Agree.{place_named}
use Rattle.circuit_theory.specs.Joined.{Either, Left, Right}
use Rattle.flat_net.specs.declared.parts.Port.{Port}
use Rattle.flat_net.specs.View.{circuit_of}
use Rattle.pair_decide.specs.declared.query.Query.{Query}
use Rattle.pair_decide.specs.declared.query.Proof.{Proof}
use Rattle.pair_decide.specs.Answers.{IsAtLimit, IsDifference}
use Rattle.pair_decide.specs.Queries.{assigned_to}
use Rattle.block_refine.specs.latch_blocks.Readings.{AreRead}
use Rattle.block_refine.specs.declared.block_graph.nets.BlockNets.{BlockNets}
use Rattle.block_refine.specs.declared.block_graph.graph.BlockGraph.{BlockGraph}
use Rattle.block_refine.specs.block_graph.Comparing.{IsLitIn, AreOwn, AreConstant, AgreeOver}
use Rattle.induct.specs.declared.block_outputs.answer.Shown.{Shown}
use Rattle.induct.specs.declared.block_outputs.answer.OutputAnswer.{OutputAnswer}
use Rattle.induct.specs.declared.block_outputs.answer.OutputAnswer.TheVariants as answer
use Rattle.induct.specs.declared.block_outputs.outputs.OutputPair.{OutputPair}

-- the query of two signals over the blocks, with care 1 and exactly their variables
pub record IsQueryOf (n : BlockNets) (g : BlockGraph) (p q : Either ℕ ℕ) (query : Query) : Type 0 where
  pub left : IsLitIn g p query.left
  pub right : IsLitIn g q query.right
  pub care : query.care.0 ≡ 1
  pub own : AreOwn n g p q query.vars

-- Values that are constant on the blocks, where each input and each block has its variable's bit. They give the two signals these two
-- values, which differ; for few variables the bits are the least of this kind.
pub record IsShown (n : BlockNets) (g : BlockGraph) (p q : Either ℕ ℕ) (s : Shown) : Type 0 where
  pub x : Either ℕ ℕ → Bool
  pub constant : AreConstant n x
  pub read : AreRead n.left.now n.right.now g.left.variables g.right.variables (assigned_to s.vars s.bits) x
  pub left : x p ≡ s.left
  pub right : x q ≡ s.right
  pub differ : s.left ≢ s.right
  pub query : Query
  pub asked : IsQueryOf n g p q query
  pub vars : query.vars ≡ s.vars
  pub difference : IsDifference g.aig query s.bits

-- the query of the two signals met the limit
pub record IsLimit (n : BlockNets) (g : BlockGraph) (conflicts : ℕ) (p q : Either ℕ ℕ) (proof : Proof) : Type 0 where
  pub query : Query
  pub asked : IsQueryOf n g p q query
  pub limit : IsAtLimit g.aig query conflicts proof

-- the answer is right
abbrev pub IsAnswer : BlockNets → BlockGraph → ℕ → Either ℕ ℕ → Either ℕ ℕ → OutputAnswer → Type 0
IsAnswer n g conflicts p q answer.Equal = AgreeOver n p q
IsAnswer n g conflicts p q (answer.NotShown s) = IsShown n g p q s
IsAnswer n g conflicts p q (answer.Limit proof) = IsLimit n g conflicts p q proof

-- the answer to an output of A and B's output of its name
pub record IsOutputAnswer (n : BlockNets) (g : BlockGraph) (conflicts : ℕ) (port : Port) (pair : OutputPair) : Type 0 where
  pub name_is : pair.name ≡ port.name
  pub other : ℕ
  pub other_is : place_named (circuit_of n.right.now).outputs port.name ≡ Some other
  pub answer_is : IsAnswer n g conflicts (Left port.signal.0) (Right other) pair.answer
