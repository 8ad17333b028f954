-- What the status says of three texts, where the circuits of two are compared by ties of signals under that of the third.
use Rattle.std.specs.Prelude.{◌≡◌, ℕ, List, Option, Some, None}
use Rattle.circuit_theory.specs.Interface.{shared_inputs}
use Rattle.base_shelves.specs.Outside.{Takes}
use Rattle.flat_net.specs.View.{circuit_of, ports_of}
use Rattle.pair_decide.specs.declared.query.Proof.{Proof}
use Rattle.assume_queries.specs.assume_sequences.assume_taken.Taken.{IsAssumed, assumed_by}
use Rattle.job_base.specs.declared.status.StatusName.{StatusName}
use Rattle.job_base.specs.declared.status.StatusName.TheVariants as status
use Rattle.pair_texts.specs.assume_texts.Agreement.{AgreeFromResetWhereMet}
use Rattle.pair_texts.specs.assume_texts.Texts.{ThreeCircuits}
use Rattle.job_base.specs.sec_files.job_files.Texts.{OfThreeTexts}
use Rattle.signal_induct.specs.declared.induction.SignalInduction.{SignalInduction}
use Rattle.signal_induct.specs.Tied.{first_apart, IsInductionWhere}
use Rattle.job_under.specs.Answer.{AssumptionUndecided, CanJudgeBy, IsUnderAnswer}
use Rattle.job_under.specs.ties.Judged.{MeetsBeside, ties_text}
use Rattle.job_under.specs.ties.Found.{TiesRefuse}

-- The circuits that the three texts spell, and the nets that they load as. Ties of the nets' signals are an inductive invariant of both under the
-- assumption, and the report, with the ties of the latches among them, is taken behind what was written before.
pub record AreTextsTied (x y z : List ℕ) (before now : Option (List ℕ)) : Type 0 where
  pub spelled : ThreeCircuits x y z
  pub assumed : IsAssumed (shared_inputs (ports_of spelled.left_net) (ports_of spelled.right_net)) spelled.assumed_net
  pub made : SignalInduction
  pub is : IsInductionWhere (MeetsBeside (assumed_by assumed) (circuit_of spelled.left_net)) spelled.left_net spelled.right_net made
  pub printed : Takes before now (ties_text assumed.shape.output.name spelled.left_net spelled.right_net made)

-- Each output is equal by the ties. In any two runs of the circuits that begin with the initial values, have equal inputs and meet the assumption
-- in every cycle, each output is equal in every cycle; the same is said of the nets.
pub record TextsAgreeTied (x y z : List ℕ) (before now : Option (List ℕ)) : Type 0 where
  pub of : AreTextsTied x y z before now
  pub is_verdict : first_apart of.made.pairs ≡ None
  pub says : AgreeFromResetWhereMet of.spelled.assumed of.spelled.left of.spelled.right
  pub nets_say : AgreeFromResetWhereMet (circuit_of of.spelled.assumed_net) (circuit_of of.spelled.left_net) (circuit_of of.spelled.right_net)

-- The output that is named is the first that the ties don't make equal. Nothing is said of the circuits.
pub record TextsNotTied (x y z : List ℕ) (before now : Option (List ℕ)) : Type 0 where
  pub of : AreTextsTied x y z before now
  pub pair : List ℕ
  pub is_verdict : first_apart of.made.pairs ≡ Some pair

-- What the status says of three texts, and of what is written.
abbrev pub TiesMean : ℕ → Option (List ℕ) → Option (List ℕ) → Option (List ℕ) → Option (List ℕ) → Option (List ℕ) → List Proof → StatusName → Type 0
TiesMean conflicts left right assumed before now proofs status.Equal = OfThreeTexts left right assumed (λ x y z. TextsAgreeTied x y z before now)
TiesMean conflicts left right assumed before now proofs status.Different = ⊥
TiesMean conflicts left right assumed before now proofs status.NotShown = OfThreeTexts left right assumed (λ x y z. TextsNotTied x y z before now)
TiesMean conflicts left right assumed before now proofs status.Limit = OfThreeTexts left right assumed (λ x y z. AssumptionUndecided x y z conflicts proofs before now)
TiesMean conflicts left right assumed before now proofs status.Done = ⊥
TiesMean conflicts left right assumed before now proofs other = Unit {0}

-- The three texts are accepted, and nothing is refused of the nets that they load as: the interfaces match, the third is an assumption on shared
-- inputs that some row meets, and neither circuit weighs more than 2,000,000.
abbrev pub CanTie : ℕ → Option (List ℕ) → Option (List ℕ) → Option (List ℕ) → Type 0
CanTie conflicts left right assumed = CanJudgeBy (TiesRefuse conflicts) left right assumed

-- circuits that can be compared so are, if no read and no write fails
abbrev pub AreTiesComplete : ℕ → Option (List ℕ) → Option (List ℕ) → Option (List ℕ) → StatusName → Type 0
AreTiesComplete conflicts left right assumed name = CanTie conflicts left right assumed → IsUnderAnswer name
