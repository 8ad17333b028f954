-- A pass over all latches of two nets, which splits the blocks of a partition.
use Rattle.std.specs.Prelude.{◌≡◌, ◌≢◌, [], ◌∷◌, ℕ, ◌+◌, ◌<◌, ◌≤◌, Bool, true, false, List, ◌++◌, length}
use Rattle.pair_decide.specs.declared.query.Proof.{Proof}
use Rattle.block_refine.specs.latch_blocks.Blocks.{block_at, bit_at}
use Rattle.block_refine.specs.latch_blocks.Laws.{pairs_alike}
use Rattle.block_refine.specs.latch_blocks.Partitions.{IsOnTheWay}
use Rattle.block_refine.specs.declared.block_graph.nets.BlockNets.{BlockNets}
use Rattle.block_refine.specs.declared.block_graph.graph.BlockGraph.{BlockGraph}
use Rattle.block_refine.specs.block_graph.Graph.{AreReady, IsBlockGraph}
use Rattle.block_refine.specs.Asking.{TakeOneValue, IsLimitAt}
use Rattle.block_refine.specs.declared.pass.Pass.{Pass}
use Rattle.block_refine.specs.declared.pass.Step.{Step}
use Rattle.block_refine.specs.declared.pass.Step.TheVariants as step
use Rattle.block_refine.specs.declared.pass.Round.{Round}
use Rattle.block_refine.specs.declared.pass.Round.TheVariants as round

-- each block has a latch of its own
pub record AreMembers (blocks firsts : List ℕ) : Type 0 where
  pub each : (j : ℕ) → j < length blocks → block_at blocks j < length firsts
  pub inside : (k : ℕ) → k < length firsts → block_at firsts k < length blocks
  pub own : (k : ℕ) → k < length firsts → block_at blocks (block_at firsts k) ≡ k

-- the latch is put behind the others where it is the first one of the next block
abbrev pub IsMemberPut : ℕ → ℕ → List ℕ → List ℕ → Type 0
IsMemberPut block latch old new = (block ≡ length old → new ≡ old ++ latch ∷ []) × (block ≢ length old → new ≡ old)

-- the partition is on the way to the coarsest inductive one
abbrev pub IsUnderWay : BlockNets → List ℕ → Type 0
IsUnderWay n blocks = IsOnTheWay n.left.now n.right.now (n.orders.now.left ++ n.orders.now.right) blocks

-- a pass may be made over the nets
pub record IsOnPass (n : BlockNets) : Type 0 where
  pub ready : AreReady n
  pub way : IsUnderWay n n.blocks.now

-- the latch that stands for the block of this one
abbrev pub first_of : Pass → ℕ → ℕ
first_of s j = block_at s.firsts.items (block_at s.blocks j)

-- the bits of a latch and of the one that stands for its block differ
abbrev pub IsApartAt : List ℕ → List ℕ → List Bool → ℕ → Type 0
IsApartAt firsts blocks bits j = (j < length blocks) × (bit_at bits (block_at firsts (block_at blocks j)) ≢ bit_at bits j)

-- A pass that has come so far: its partition is on the way and refines that of the nets; it has fewer pairs in one block where a block
-- was split, and else each latch so far takes over one value with the one that stands for its block.
pub record IsPass (n : BlockNets) (count : ℕ) (s : Pass) : Type 0 where
  pub way : IsUnderWay n s.blocks
  pub each : length s.blocks ≡ length n.blocks.now
  pub few : length s.blocks ≤ 4000000
  pub members : AreMembers s.blocks s.firsts.items
  pub finer : (i j : ℕ) → i < length s.blocks → j < length s.blocks → block_at s.blocks i ≡ block_at s.blocks j → block_at n.blocks.now i ≡ block_at n.blocks.now j
  pub fewer : s.split ≡ true → pairs_alike s.blocks < pairs_alike n.blocks.now
  pub same : s.split ≡ false → s.blocks ≡ n.blocks.now
  pub agreed : s.split ≡ false → (j : ℕ) → j < count → TakeOneValue n (first_of s j) j

-- the query of what two latches of one block take over met the limit
pub record IsLimitOf (n : BlockNets) (g : BlockGraph) (conflicts i j : ℕ) (proof : Proof) : Type 0 where
  pub inside : (i < length n.blocks.now) × (j < length n.blocks.now)
  pub beside : block_at n.blocks.now i ≡ block_at n.blocks.now j
  pub asked : IsLimitAt n g conflicts i j proof

-- what comes of a latch's query
abbrev pub IsStep : BlockNets → BlockGraph → ℕ → ℕ → Pass → Step → Type 0
IsStep n g conflicts j s step.Goes = IsPass n (j + 1) s
IsStep n g conflicts j s (step.Limit first proof) = IsPass n j s × IsLimitOf n g conflicts first j proof

-- latches of one block take over one value
abbrev pub IsSteady : BlockNets → Type 0
IsSteady n = (i j : ℕ) → i < length n.blocks.now → j < length n.blocks.now → block_at n.blocks.now i ≡ block_at n.blocks.now j → TakeOneValue n i j

-- what comes of a pass
abbrev pub IsRound : BlockNets → ℕ → Round → Type 0
IsRound n conflicts round.Same = IsSteady n
IsRound n conflicts (round.Split fine) = IsUnderWay n fine × (pairs_alike fine < pairs_alike n.blocks.now)
IsRound n conflicts (round.Limit i j proof) = (g : BlockGraph) × IsBlockGraph n g × IsLimitOf n g conflicts i j proof

-- what comes of a pass at its end
abbrev pub IsEndRound : Pass → Round → Type 0
IsEndRound s made = (s.split ≡ true → made ≡ round.Split s.blocks) × (s.split ≡ false → made ≡ round.Same)

-- what comes of a pass at its limit
abbrev pub IsLimitRound : Pass → ℕ → ℕ → Proof → Round → Type 0
IsLimitRound s i j proof made = (s.split ≡ true → made ≡ round.Split s.blocks) × (s.split ≡ false → made ≡ round.Limit i j proof)
