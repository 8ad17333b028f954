-- What two circuits' coarsest inductive partition says of their outputs, as it is reported.
use Rattle.std.specs.Prelude.{◌≡◌, ℕ, suc, ◌+◌, ◌-◌, ◌^◌, ◌<◌, ◌≤◌, ◌⊎◌, ◌==◌, nat_lt, if◌then◌else◌, List, [], ◌∷◌, ◌++◌, length, map, slice_get, slice_set, slice_index_or, Option, Some, None}
use Rattle.std.specs.List.{All, AllZip}
use Rattle.circuit_theory.specs.declared.Side.TheVariants.{A, B}
use Rattle.circuit_theory.specs.Interface.{shared_inputs, AreOrders}
use Rattle.sec_base.specs.declared.basics.Orders.{Orders}
use Rattle.sec_base.specs.declared.basics.Tag.{Tag}
use Rattle.sec_base.specs.declared.basics.PairAnswer.TheVariants as told
use Rattle.sec_base.specs.declared.limits.TheConstants.{MAX_WEIGHT}
use Rattle.flat_net.specs.View.{NetView, ports_of}
use Rattle.block_refine.specs.latch_blocks.Blocks.{block_at}
use Rattle.block_refine.specs.latch_blocks.Signals.{net_weight}
use Rattle.block_refine.specs.declared.block_graph.nets.BlockNets.{BlockNets}
use Rattle.block_refine.specs.declared.block_graph.graph.BlockGraph.{BlockGraph}
use Rattle.block_refine.specs.block_graph.Graph.{IsBlockGraph}
use Rattle.block_refine.specs.declared.refinement.SplitLimit.{SplitLimit}
use Rattle.block_refine.specs.Refining.{AreCoarsest, IsSplitLimit}
use Rattle.induct.specs.declared.block_outputs.answer.Shown.{Shown}
use Rattle.induct.specs.declared.block_outputs.answer.OutputAnswer.{OutputAnswer}
use Rattle.induct.specs.declared.block_outputs.answer.OutputAnswer.TheVariants as answer
use Rattle.induct.specs.declared.block_outputs.outputs.OutputPair.{OutputPair}
use Rattle.induct.specs.block_outputs.Answers.{IsOutputAnswer}
use Rattle.induct.specs.declared.induction.InductPair.{InductPair}
use Rattle.induct.specs.declared.induction.InductVerdict.{InductVerdict}
use Rattle.induct.specs.declared.induction.InductVerdict.TheVariants as verdict
use Rattle.induct.specs.declared.induction.Induction.{Induction}
use Rattle.induct.specs.declared.verdict.Told.{Told}
use Rattle.induct.specs.declared.induction.InductError.{InductError}
use Rattle.induct.specs.declared.induction.InductError.TheVariants as refusal

-- numbers of the interface, all small
pub record AreOwnNumbers (a b : NetView) (own : Orders) : Type 0 where
  pub are : AreOrders (ports_of a) (ports_of b) own.left own.right
  pub left_small : All (λ i. i < 2 ^ 31) own.left
  pub right_small : All (λ i. i < 2 ^ 31) own.right

-- the latch at a place, where so many latches of A stand before those of B
abbrev pub tag_at : ℕ → ℕ → Tag
tag_at count place = if nat_lt place count then record { side = A; latch = place } else record { side = B; latch = place - count }

-- the latches of a block from a place on
abbrev pub tags_from : ℕ → ℕ → List ℕ → ℕ → List Tag
tags_from count place [] k = []
tags_from count place (block ∷ blocks) k = if block == k then tag_at count place ∷ tags_from count (suc place) blocks k else tags_from count (suc place) blocks k

-- the latches of each block, and no block more
pub record AreMembers (count : ℕ) (blocks : List ℕ) (listed : List (List Tag)) : Type 0 where
  pub each : (k : ℕ) (block : List Tag) → slice_get listed k ≡ Some block → block ≡ tags_from count 0 blocks k
  pub enough : (j : ℕ) → j < length blocks → block_at blocks j < length listed
  pub none_empty : (k : ℕ) → k < length listed → (j : ℕ) × (j < length blocks) × (block_at blocks j ≡ k)

-- an output as it is told
abbrev pub pair_told : OutputPair → InductPair
pair_told pair = go pair.answer
  where
    go : OutputAnswer → InductPair
    go answer.Equal = record { name = pair.name; answer = told.Equal; proof = None }
    go (answer.NotShown s) = record { name = pair.name; answer = told.NotShown; proof = None }
    go (answer.Limit proof) = record { name = pair.name; answer = told.Limit; proof = Some proof }

-- a variable as it is told: an input's number, and those of blocks from the number of the shared inputs on
abbrev pub variable_told : ℕ → ℕ → ℕ → ℕ
variable_told first count v = if nat_lt v first then v else count + (v - first)

-- the name where the query met the limit
abbrev pub limit_or : List ℕ → OutputAnswer → Option (List ℕ) → Option (List ℕ)
limit_or name answer.Equal rest = rest
limit_or name (answer.NotShown s) rest = rest
limit_or name (answer.Limit proof) rest = Some name

-- the name of the first output whose query met the limit
abbrev pub first_limit : List OutputPair → Option (List ℕ)
first_limit [] = None
first_limit (pair ∷ pairs) = limit_or pair.name pair.answer (first_limit pairs)

-- the output where it isn't shown equal
abbrev pub shown_or : List ℕ → OutputAnswer → Option (List ℕ × Shown) → Option (List ℕ × Shown)
shown_or name answer.Equal rest = rest
shown_or name (answer.NotShown s) rest = Some (name, s)
shown_or name (answer.Limit proof) rest = rest

-- the first output that isn't shown equal
abbrev pub first_shown : List OutputPair → Option (List ℕ × Shown)
first_shown [] = None
first_shown (pair ∷ pairs) = shown_or pair.name pair.answer (first_shown pairs)

-- what has been told of these outputs
pub record IsTold (outputs : List OutputPair) (t : Told) : Type 0 where
  pub pairs : t.pairs ≡ map pair_told outputs
  pub limit : t.limit ≡ first_limit outputs
  pub shown : t.shown ≡ first_shown outputs

-- the variables that are told, where there are any, stay small
abbrev pub AreSmall : ℕ → OutputAnswer → Type 0
AreSmall count answer.Equal = Unit {0}
AreSmall count (answer.NotShown s) = All (λ v. count + v < 2 ^ 32) s.vars
AreSmall count (answer.Limit proof) = Unit {0}

-- numbers below the bound stay, and others are their places, counted from one number
pub record AreLowered (bound from : ℕ) (numbers made : List ℕ) : Type 0 where
  pub each : length made ≡ length numbers
  pub low : (k i : ℕ) → slice_get numbers k ≡ Some i → i < bound → slice_get made k ≡ Some i
  pub high : (k i : ℕ) → slice_get numbers k ≡ Some i → bound ≤ i → slice_get made k ≡ Some (from + k)

-- the latch is put into its block, which may be the next one
abbrev pub IsPut : ℕ → Tag → List (List Tag) → List (List Tag) → Type 0
IsPut block tag old new = (block ≡ length old → new ≡ old ++ (tag ∷ []) ∷ []) × (block < length old → new ≡ slice_set old block (slice_index_or old block [] ++ tag ∷ []))

-- the first of limit, not shown and equal that some pair has
abbrev pub verdict_of : ℕ → ℕ → Option (List ℕ) → Option (List ℕ × Shown) → InductVerdict
verdict_of first count (Some name) shown = verdict.Limit name
verdict_of first count None (Some x) = verdict.NotShown x.0 x.1.left x.1.right (map (variable_told first count) x.1.vars) x.1.bits
verdict_of first count None None = verdict.Equal

-- each variable that is told is below the number of the shared inputs and of the blocks
abbrev pub TellsInside : ℕ → InductVerdict → Type 0
TellsInside limit verdict.Equal = Unit {0}
TellsInside limit (verdict.NotShown pair left right vars bits) = All (λ v. v < limit) vars
TellsInside limit (verdict.Limit pair) = Unit {0}
TellsInside limit (verdict.SplitLimit left right proof) = Unit {0}

-- The coarsest inductive partition, and each output over it, on the graph of both nets where each latch is its block's variable.
pub record IsOver (a b : NetView) (own : Orders) (conflicts : ℕ) (made : Induction) : Type 0 where
  pub n : BlockNets
  pub left_is : n.left.now ≡ a
  pub right_is : n.right.now ≡ b
  pub own_is : n.orders.now ≡ own
  pub coarsest : AreCoarsest a b own n.blocks.now
  pub members : AreMembers (length a.latches) n.blocks.now made.blocks
  pub g : BlockGraph
  pub graph : IsBlockGraph n g
  pub outputs : List OutputPair
  pub answered : AllZip (IsOutputAnswer n g conflicts) a.outputs outputs
  pub pairs_are : made.pairs ≡ map pair_told outputs
  pub verdict_is : made.verdict ≡ verdict_of graph.first (length (shared_inputs (ports_of a) (ports_of b))) (first_limit outputs) (first_shown outputs)
  pub inside : TellsInside (length (shared_inputs (ports_of a) (ports_of b)) + length made.blocks) made.verdict

-- Two latches of one block of a partition that the coarsest one refines: the query of their data met the limit.
pub record IsSplitLimitOf (a b : NetView) (own : Orders) (conflicts : ℕ) (made : Induction) : Type 0 where
  pub limit : SplitLimit
  pub is : IsSplitLimit a b own conflicts limit
  pub members : AreMembers (length a.latches) limit.blocks made.blocks
  pub no_pairs : made.pairs ≡ []
  pub verdict_is : made.verdict ≡ verdict.SplitLimit (tag_at (length a.latches) limit.left) (tag_at (length a.latches) limit.right) limit.proof

-- What is told, by some numbers of the interface: a shared input has its place in all of them, and nothing reads the others.
pub record IsInduction (a b : NetView) (conflicts : ℕ) (made : Induction) : Type 0 where
  pub own : Orders
  pub are_own : AreOwnNumbers a b own
  pub is : IsOver a b own conflicts made ⊎ IsSplitLimitOf a b own conflicts made

-- why two circuits aren't compared
abbrev pub IsRefusal : NetView → NetView → InductError → Type 0
IsRefusal a b (refusal.TooLarge A) = MAX_WEIGHT < net_weight a
IsRefusal a b (refusal.TooLarge B) = (net_weight a ≤ MAX_WEIGHT) × (MAX_WEIGHT < net_weight b)
IsRefusal a b refusal.NoMemory = Unit {0}
