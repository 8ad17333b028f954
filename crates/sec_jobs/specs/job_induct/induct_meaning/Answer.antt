-- What the status says of two texts whose circuits are compared by blocks, and when they can be compared so.
use Rattle.std.specs.Prelude.{◌≡◌, ◌≢◌, ◌⊎◌, ℕ, ◌+◌, ◌-◌, ◌<◌, ◌≤◌, Bool, List, [], ◌∷◌, length, slice_get, Option, Some, None, IsSomeAnd, Contains}
use Rattle.circuit_theory.specs.Circuit.{Circuit}
use Rattle.circuit_theory.specs.Agree.{place_named}
use Rattle.circuit_theory.specs.Interface.{first_mismatch, shared_inputs}
use Rattle.circuit_theory.specs.Joined.{Either, Left, Right}
use Rattle.circuit_laws.specs.reset_laws.Reset.{AgreeFromReset}
use Rattle.base_shelves.specs.Outside.{Takes}
use Rattle.sec_base.specs.declared.basics.Orders.{Orders}
use Rattle.flat_net.specs.declared.parts.Port.{Port}
use Rattle.flat_net.specs.declared.parts.LatchAt.{LatchAt}
use Rattle.flat_net.specs.View.{NetView, circuit_of, ports_of}
use Rattle.blif_read.specs.Design.{Place}
use Rattle.pair_decide.specs.declared.query.Proof.{Proof}
use Rattle.block_refine.specs.latch_blocks.Blocks.{block_at}
use Rattle.block_refine.specs.latch_blocks.QueryLaws.{AreBlockValues}
use Rattle.induct.specs.block_outputs.Answers.{IsLimit}
use Rattle.job_base.specs.sec_files.Loading.{IsAccepted, Loads, SpellsCircuit}
use Rattle.job_base.specs.declared.status.StatusName.{StatusName}
use Rattle.job_base.specs.declared.status.StatusName.TheVariants as status
use Rattle.induct.specs.declared.induction.InductVerdict.TheVariants as verdict
use Rattle.induct.specs.declared.induction.Induction.{Induction}
use Rattle.induct.specs.Inductions.{AreOwnNumbers, IsOver, IsSplitLimitOf, IsInduction}
use Rattle.induct.specs.induct_report.Report.{induct_text}
use Rattle.sec_jobs.specs.job_induct.induct_meaning.Judged.{AreLight}
use Rattle.job_base.specs.sec_files.job_files.Texts.{OfTexts}

-- The report of these nets is taken behind what was written before.
abbrev pub IsPrinted : NetView → NetView → ℕ → Induction → Option (List ℕ) → Option (List ℕ) → Type 0
IsPrinted a b conflicts made before now = Takes before now (induct_text a b conflicts made)

-- In any two runs of the circuits that the two texts spell that begin with the initial values and have equal inputs, each output is
-- equal in every cycle. The same is said of the flat nets that the texts load as, over whose blocks the outputs were found equal.
pub record BlocksAgree (x y : List ℕ) (conflicts : ℕ) (before now : Option (List ℕ)) : Type 0 where
  pub left_clock : Option (List ℕ)
  pub right_clock : Option (List ℕ)
  pub left : Circuit Place
  pub right : Circuit Place
  pub left_spelled : SpellsCircuit x left_clock left
  pub right_spelled : SpellsCircuit y right_clock right
  pub left_net : NetView
  pub right_net : NetView
  pub left_loads : Loads x left_net
  pub right_loads : Loads y right_net
  pub made : Induction
  pub is : IsInduction left_net right_net conflicts made
  pub is_verdict : made.verdict ≡ verdict.Equal
  pub printed : IsPrinted left_net right_net conflicts made before now
  pub says : AgreeFromReset left right
  pub nets_say : AgreeFromReset (circuit_of left_net) (circuit_of right_net)

-- how many inputs the nets share
abbrev pub shared_count : NetView → NetView → ℕ
shared_count a b = length (shared_inputs (ports_of a) (ports_of b))

-- In these values each variable that is told has its bit: one below the number of shared inputs the inputs of this number, and each other
-- the latches of the block that is so many behind the first.
pub record HaveBits (a b : NetView) (own : Orders) (blocks vars : List ℕ) (bits : List Bool) (x : Either ℕ ℕ → Bool) : Type 0 where
  pub each : length bits ≡ length vars
  pub left_inputs : (k v i : ℕ) (bit : Bool) (port : Port) → slice_get vars k ≡ Some v → slice_get bits k ≡ Some bit → v < shared_count a b → slice_get a.inputs i ≡ Some port → slice_get own.left i ≡ Some v →
      x (Left port.signal.0) ≡ bit
  pub right_inputs : (k v i : ℕ) (bit : Bool) (port : Port) → slice_get vars k ≡ Some v → slice_get bits k ≡ Some bit → v < shared_count a b → slice_get b.inputs i ≡ Some port → slice_get own.right i ≡ Some v →
      x (Right port.signal.0) ≡ bit
  pub left_latches : (k v j : ℕ) (bit : Bool) (latch : LatchAt) → slice_get vars k ≡ Some v → slice_get bits k ≡ Some bit → shared_count a b ≤ v → slice_get a.latches j ≡ Some latch → block_at blocks j ≡ v - shared_count a b →
      x (Left latch.out.0) ≡ bit
  pub right_latches : (k v j : ℕ) (bit : Bool) (latch : LatchAt) → slice_get vars k ≡ Some v → slice_get bits k ≡ Some bit → shared_count a b ≤ v → slice_get b.latches j ≡ Some latch →
      block_at blocks (length a.latches + j) ≡ v - shared_count a b → x (Right latch.out.0) ≡ bit

-- Values of both nets that are constant on the blocks, in which the told variables have their bits, and the outputs of this name these two
-- values, which differ.
pub record TellApart (a b : NetView) (own : Orders) (blocks : List ℕ) (pair : List ℕ) (left right : Bool) (vars : List ℕ) (bits : List Bool) : Type 0 where
  pub output : Port
  pub is_output : Contains a.outputs output
  pub named : output.name ≡ pair
  pub other : ℕ
  pub other_named : place_named (circuit_of b).outputs pair ≡ Some other
  pub x : Either ℕ ℕ → Bool
  pub constant : AreBlockValues a b own blocks x
  pub told : HaveBits a b own blocks vars bits x
  pub left_is : x (Left output.signal.0) ≡ left
  pub right_is : x (Right other) ≡ right
  pub differ : left ≢ right

-- The blocks that are printed are those of the coarsest inductive partition of both nets. The output that is named is the first that isn't
-- equal for all values that are constant on the blocks, as such values show, and no output met the limit. Nothing is said of the circuits.
pub record IsUnshown (a b : NetView) (conflicts : ℕ) (made : Induction) : Type 0 where
  pub own : Orders
  pub are_own : AreOwnNumbers a b own
  pub over : IsOver a b own conflicts made
  pub pair : List ℕ
  pub left : Bool
  pub right : Bool
  pub vars : List ℕ
  pub bits : List Bool
  pub is_verdict : made.verdict ≡ verdict.NotShown pair left right vars bits
  pub shown : TellApart a b own over.n.blocks.now pair left right vars bits

-- this is so of the two texts' nets, and printed
pub record BlocksNotShown (x y : List ℕ) (conflicts : ℕ) (before now : Option (List ℕ)) : Type 0 where
  pub left_net : NetView
  pub right_net : NetView
  pub left_loads : Loads x left_net
  pub right_loads : Loads y right_net
  pub made : Induction
  pub printed : IsPrinted left_net right_net conflicts made before now
  pub unshown : IsUnshown left_net right_net conflicts made

-- The report names an output of both nets, whose query over the blocks of the coarsest inductive partition has more than 16 variables and
-- met the limit, which one of the proofs shows: its clauses, and a log of exactly as many chains as conflicts are allowed.
pub record PairUndecided (a b : NetView) (conflicts : ℕ) (proofs : List Proof) (made : Induction) : Type 0 where
  pub own : Orders
  pub are_own : AreOwnNumbers a b own
  pub over : IsOver a b own conflicts made
  pub pair : List ℕ
  pub is_verdict : made.verdict ≡ verdict.Limit pair
  pub output : Port
  pub is_output : Contains a.outputs output
  pub named : output.name ≡ pair
  pub other : ℕ
  pub other_named : place_named (circuit_of b).outputs pair ≡ Some other
  pub proof : Proof
  pub kept : Contains proofs proof
  pub undecided : IsLimit over.n over.g conflicts (Left output.signal.0) (Right other) proof

-- The report names no latches, and no outputs are compared. Two latches stand in one block of a partition that the coarsest inductive one
-- refines, and the query of what they take over met the limit, which the one proof shows in the same way.
pub record SplitUndecided (a b : NetView) (conflicts : ℕ) (proofs : List Proof) (made : Induction) : Type 0 where
  pub own : Orders
  pub are_own : AreOwnNumbers a b own
  pub split : IsSplitLimitOf a b own conflicts made
  pub kept : proofs ≡ split.limit.proof ∷ []

-- a query met the limit, of an output over the blocks or of two latches while blocks were split
pub record BlocksUndecided (x y : List ℕ) (conflicts : ℕ) (proofs : List Proof) (before now : Option (List ℕ)) : Type 0 where
  pub left_net : NetView
  pub right_net : NetView
  pub left_loads : Loads x left_net
  pub right_loads : Loads y right_net
  pub made : Induction
  pub printed : IsPrinted left_net right_net conflicts made before now
  pub undecided : PairUndecided left_net right_net conflicts proofs made ⊎ SplitUndecided left_net right_net conflicts proofs made

-- What the status says of two texts whose circuits are compared by blocks, and of what is written.
abbrev pub InductMeans : ℕ → Option (List ℕ) → Option (List ℕ) → Option (List ℕ) → Option (List ℕ) → List Proof → StatusName → Type 0
InductMeans conflicts left right before now proofs status.Equal = OfTexts left right (λ x y. BlocksAgree x y conflicts before now)
InductMeans conflicts left right before now proofs status.Different = ⊥
InductMeans conflicts left right before now proofs status.NotShown = OfTexts left right (λ x y. BlocksNotShown x y conflicts before now)
InductMeans conflicts left right before now proofs status.Limit = OfTexts left right (λ x y. BlocksUndecided x y conflicts proofs before now)
InductMeans conflicts left right before now proofs status.Done = ⊥
InductMeans conflicts left right before now proofs other = Unit {0}

-- Both texts are accepted, their interfaces match, and no circuit is too large.
pub record CanBeJudged (x y : List ℕ) : Type 0 where
  pub left : IsAccepted x
  pub right : IsAccepted y
  pub match : (a b : NetView) → Loads x a → Loads y b → first_mismatch (ports_of a) (ports_of b) ≡ None
  pub light : (a b : NetView) → Loads x a → Loads y b → AreLight a b

-- both texts are told and can be compared so
abbrev pub CanInduct : Option (List ℕ) → Option (List ℕ) → Type 0
CanInduct left right = IsSomeAnd left (λ x. IsSomeAnd right (λ y. CanBeJudged x y))

-- a verdict, or want of memory
abbrev pub IsInductAnswer : StatusName → Type 0
IsInductAnswer status.Equal = Unit {0}
IsInductAnswer status.NotShown = Unit {0}
IsInductAnswer status.Limit = Unit {0}
IsInductAnswer status.NoMemory = Unit {0}
IsInductAnswer other = ⊥

-- circuits that can be compared are, if no read and no write fails
abbrev pub IsInductComplete : Option (List ℕ) → Option (List ℕ) → StatusName → Type 0
IsInductComplete left right name = CanInduct left right → IsInductAnswer name
