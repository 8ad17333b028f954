-- What the status says of two texts whose circuits are compared by an induction over cycles behind the rows of a third.
use Rattle.std.specs.Prelude.{◌≡◌, ◌⊎◌, ℕ, Bool, true, false, List, length, Option, Some, None}
use Rattle.circuit_theory.specs.Circuit.{Circuit}
use Rattle.base_shelves.specs.Outside.{Takes}
use Rattle.flat_net.specs.View.{NetView}
use Rattle.blif_read.specs.Design.{Place}
use Rattle.pair_decide.specs.declared.query.Proof.{Proof}
use Rattle.job_base.specs.sec_files.Loading.{Loads, SpellsCircuit}
use Rattle.job_base.specs.sec_files.Stimuli.{IsStimulus}
use Rattle.job_base.specs.declared.status.StatusName.{StatusName}
use Rattle.job_base.specs.declared.status.StatusName.TheVariants as status
use Rattle.induct.specs.declared.induction.InductVerdict.TheVariants as verdict
use Rattle.induct.specs.declared.induction.Induction.{Induction}
use Rattle.induct.specs.Inductions.{IsInduction}
use Rattle.induct.specs.induct_report.Report.{induct_text}
use Rattle.signal_induct.specs.declared.induction.SignalInduction.{SignalInduction}
use Rattle.signal_induct.specs.Tied.{first_apart, IsSignalInduction}
use Rattle.signal_induct.specs.signals_report.Report.{signals_text}
use Rattle.sec_jobs.specs.job_induct.induct_meaning.Answer.{IsUnshown, PairUndecided, SplitUndecided, IsInductAnswer}
use Rattle.restart.specs.Agreement.{AgreeBehind, Each}
use Rattle.job_after.specs.Answer.{OfThree, CanBegin}
use Rattle.job_signals.specs.job_begun.Judged.{Begun, AreBegun, text_behind}
use Rattle.job_signals.specs.job_begun.Found.{IsHeavy}

-- The circuits that two texts spell, the stimulus of the third, the nets that the two load as, and these nets as they begin behind the rows
-- of the stimulus.
pub record AreBegunTexts (x y z : List ℕ) : Type 0 where
  pub left_clock : Option (List ℕ)
  pub right_clock : Option (List ℕ)
  pub left : Circuit Place
  pub right : Circuit Place
  pub left_spelled : SpellsCircuit x left_clock left
  pub right_spelled : SpellsCircuit y right_clock right
  pub names : List (List ℕ)
  pub rows : List (List Bool)
  pub stimulus : IsStimulus z names rows
  pub left_net : NetView
  pub right_net : NetView
  pub left_loads : Loads x left_net
  pub right_loads : Loads y right_net
  pub begun : Begun
  pub are_begun : AreBegun left_net right_net names rows begun

-- in any two runs of the circuits that begin by the rows and have equal inputs, whatever both power up with, each output is equal in every
-- cycle behind the rows
abbrev pub SayEqual : {x y z : List ℕ} → AreBegunTexts x y z → Type 0
SayEqual t = AgreeBehind t.names t.rows Each t.left t.right

-- Ties of the signals of the nets that begin are an inductive invariant of both, and this is written.
pub record AreTiedBehind (x y z : List ℕ) (before now : Option (List ℕ)) : Type 0 where
  pub texts : AreBegunTexts x y z
  pub made : SignalInduction
  pub inductive : IsSignalInduction texts.begun.left texts.begun.right made
  pub printed : Takes before now (text_behind (length texts.rows) texts.begun (signals_text texts.begun.left texts.begun.right made))

-- Each output is equal by the ties.
pub record TiedAgree (x y z : List ℕ) (before now : Option (List ℕ)) : Type 0 where
  pub of : AreTiedBehind x y z before now
  pub is_verdict : first_apart of.made.pairs ≡ None
  pub says : SayEqual of.texts

-- The output that is named is the first that the ties don't make equal. Nothing is said of the circuits.
pub record TiedNotShown (x y z : List ℕ) (before now : Option (List ℕ)) : Type 0 where
  pub of : AreTiedBehind x y z before now
  pub pair : List ℕ
  pub is_verdict : first_apart of.made.pairs ≡ Some pair

-- Latches of the nets that begin are put into blocks, and this is written.
pub record AreInBlocksBehind (x y z : List ℕ) (conflicts : ℕ) (before now : Option (List ℕ)) : Type 0 where
  pub texts : AreBegunTexts x y z
  pub made : Induction
  pub printed : Takes before now (text_behind (length texts.rows) texts.begun (induct_text texts.begun.left texts.begun.right conflicts made))

-- Each output is equal over the blocks.
pub record BlocksAgreeBehind (x y z : List ℕ) (conflicts : ℕ) (before now : Option (List ℕ)) : Type 0 where
  pub of : AreInBlocksBehind x y z conflicts before now
  pub is : IsInduction of.texts.begun.left of.texts.begun.right conflicts of.made
  pub is_verdict : of.made.verdict ≡ verdict.Equal
  pub says : SayEqual of.texts

-- Values that are constant on the blocks tell an output of the nets that begin apart. Nothing is said of the circuits.
pub record BlocksNotShownBehind (x y z : List ℕ) (conflicts : ℕ) (before now : Option (List ℕ)) : Type 0 where
  pub of : AreInBlocksBehind x y z conflicts before now
  pub unshown : IsUnshown of.texts.begun.left of.texts.begun.right conflicts of.made

-- A query met the limit, of an output over the blocks or of two latches while blocks were split.
pub record BlocksUndecidedBehind (x y z : List ℕ) (conflicts : ℕ) (proofs : List Proof) (before now : Option (List ℕ)) : Type 0 where
  pub of : AreInBlocksBehind x y z conflicts before now
  pub undecided : PairUndecided of.texts.begun.left of.texts.begun.right conflicts proofs of.made ⊎ SplitUndecided of.texts.begun.left of.texts.begun.right conflicts proofs of.made

-- what is said by ties of signals, and by blocks of latches
abbrev pub ByWay : Bool → Type 0 → Type 0 → Type 0
ByWay true ties blocks = ties
ByWay false ties blocks = blocks

-- What the status says of three texts, and of what is written.
abbrev pub BegunMeans : Bool → ℕ → Option (List ℕ) → Option (List ℕ) → Option (List ℕ) → Option (List ℕ) → Option (List ℕ) → List Proof → StatusName → Type 0
BegunMeans signals conflicts left right stimulus before now proofs status.Equal =
    ByWay signals (OfThree left right stimulus (λ x y z. TiedAgree x y z before now)) (OfThree left right stimulus (λ x y z. BlocksAgreeBehind x y z conflicts before now))
BegunMeans signals conflicts left right stimulus before now proofs status.Different = ⊥
BegunMeans signals conflicts left right stimulus before now proofs status.NotShown =
    ByWay signals (OfThree left right stimulus (λ x y z. TiedNotShown x y z before now)) (OfThree left right stimulus (λ x y z. BlocksNotShownBehind x y z conflicts before now))
BegunMeans signals conflicts left right stimulus before now proofs status.Limit = ByWay signals ⊥ (OfThree left right stimulus (λ x y z. BlocksUndecidedBehind x y z conflicts proofs before now))
BegunMeans signals conflicts left right stimulus before now proofs status.Done = ⊥
BegunMeans signals conflicts left right stimulus before now proofs other = Unit {0}

-- circuits that can be compared so are, if no read and no write fails
abbrev pub IsBegunComplete : Option (List ℕ) → Option (List ℕ) → Option (List ℕ) → StatusName → Type 0
IsBegunComplete left right stimulus name = CanBegin IsHeavy left right stimulus → IsInductAnswer name
