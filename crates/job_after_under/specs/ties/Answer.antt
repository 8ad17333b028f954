-- What the status says of four texts, where the circuits of two are compared by ties of signals behind the rows of the stimulus of the fourth
-- under that of the third.
use Rattle.std.specs.Prelude.{◌≡◌, ℕ, Bool, List, length, Option, Some, None}
use Rattle.circuit_theory.specs.Interface.{shared_inputs}
use Rattle.base_shelves.specs.Outside.{Takes}
use Rattle.flat_net.specs.View.{circuit_of, ports_of}
use Rattle.pair_decide.specs.declared.query.Proof.{Proof}
use Rattle.assume_queries.specs.assume_sequences.assume_taken.Taken.{IsAssumed, assumed_by}
use Rattle.job_base.specs.declared.status.StatusName.{StatusName}
use Rattle.job_base.specs.declared.status.StatusName.TheVariants as status
use Rattle.job_base.specs.sec_files.Stimuli.{IsStimulus}
use Rattle.pair_texts.specs.assume_texts.Texts.{ThreeCircuits}
use Rattle.job_under.specs.signal_induct.SignalInduction.{SignalInduction}
use Rattle.job_under.specs.signal_induct.Tied.{first_apart, IsInductionWhere}
use Rattle.restart.specs.Agreement.{Each}
use Rattle.job_under.specs.job_begun.Judged.{Begun, AreBegun, text_behind}
use Rattle.job_under.specs.ties.Judged.{MeetsBeside, ties_text}
use Rattle.job_under.specs.ties.Found.{TiesRefuse}
use Rattle.job_after_under.specs.Answer.{AssumptionUndecided, OfFourTexts, CanJudgeBehind, IsAfterUnderAnswer}
use Rattle.job_after_under.specs.Runs.{AgreeBehindWhereMet, TiesHoldWhereMet}

-- The circuits that three texts spell, the stimulus of the fourth, and the nets that the three load as, as both begin behind its rows. Ties of
-- these nets' signals are an inductive invariant of both under the assumption. They hold in each cycle behind the rows of any two runs with equal
-- inputs that begin by them and meet the assumption in each of these cycles, whatever both power up with. The report, with the ties of the latches
-- among them, is taken behind what was written before.
pub record AreTextsTiedBehind (x y u z : List ℕ) (before now : Option (List ℕ)) : Type 0 where
  pub spelled : ThreeCircuits x y u
  pub names : List (List ℕ)
  pub rows : List (List Bool)
  pub stimulus : IsStimulus z names rows
  pub begun : Begun
  pub are_begun : AreBegun spelled.left_net spelled.right_net names rows begun
  pub assumed : IsAssumed (shared_inputs (ports_of begun.left) (ports_of begun.right)) spelled.assumed_net
  pub made : SignalInduction
  pub is : IsInductionWhere (MeetsBeside (assumed_by assumed) (circuit_of begun.left)) begun.left begun.right made
  pub hold : TiesHoldWhereMet names rows (circuit_of spelled.assumed_net) (circuit_of spelled.left_net) (circuit_of spelled.right_net) (length spelled.left_net.drivers) made.ties.anchors.items
  pub printed : Takes before now (text_behind (length rows) begun (ties_text assumed.shape.output.name begun.left begun.right made))

-- Each output is equal by the ties. In any two such runs of the circuits each output is equal in every cycle behind the rows.
pub record TextsAgreeTiedBehind (x y u z : List ℕ) (before now : Option (List ℕ)) : Type 0 where
  pub of : AreTextsTiedBehind x y u z before now
  pub is_verdict : first_apart of.made.pairs ≡ None
  pub says : AgreeBehindWhereMet of.names of.rows Each of.spelled.assumed of.spelled.left of.spelled.right

-- The output that is named is the first that the ties don't make equal. Nothing is said of the circuits.
pub record TextsNotTiedBehind (x y u z : List ℕ) (before now : Option (List ℕ)) : Type 0 where
  pub of : AreTextsTiedBehind x y u z before now
  pub pair : List ℕ
  pub is_verdict : first_apart of.made.pairs ≡ Some pair

-- What the status says of four texts, and of what is written.
abbrev pub TiesBehindMean : ℕ → Option (List ℕ) → Option (List ℕ) → Option (List ℕ) → Option (List ℕ) → Option (List ℕ) → Option (List ℕ) → List Proof → StatusName → Type 0
TiesBehindMean conflicts left right assumed stimulus before now proofs status.Equal = OfFourTexts left right assumed stimulus (λ x y u z. TextsAgreeTiedBehind x y u z before now)
TiesBehindMean conflicts left right assumed stimulus before now proofs status.Different = ⊥
TiesBehindMean conflicts left right assumed stimulus before now proofs status.NotShown = OfFourTexts left right assumed stimulus (λ x y u z. TextsNotTiedBehind x y u z before now)
TiesBehindMean conflicts left right assumed stimulus before now proofs status.Limit = OfFourTexts left right assumed stimulus (λ x y u z. AssumptionUndecided x y u z conflicts proofs before now)
TiesBehindMean conflicts left right assumed stimulus before now proofs status.Done = ⊥
TiesBehindMean conflicts left right assumed stimulus before now proofs other = Unit {0}

-- The four texts are told, and nothing is refused of the nets as they begin behind the rows: their interfaces match, the third is an assumption on
-- shared inputs that some row meets, and neither circuit weighs more than 2,000,000.
abbrev pub CanTieBehind : ℕ → Option (List ℕ) → Option (List ℕ) → Option (List ℕ) → Option (List ℕ) → Type 0
CanTieBehind conflicts left right assumed stimulus = CanJudgeBehind (TiesRefuse conflicts) left right assumed stimulus

-- circuits that can be compared so are, if no read and no write fails
abbrev pub AreTiesBehindComplete : ℕ → Option (List ℕ) → Option (List ℕ) → Option (List ℕ) → Option (List ℕ) → StatusName → Type 0
AreTiesBehindComplete conflicts left right assumed stimulus name = CanTieBehind conflicts left right assumed stimulus → IsAfterUnderAnswer name
