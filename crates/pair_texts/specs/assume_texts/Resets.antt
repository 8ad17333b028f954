-- What the answers of a comparison from the latches' initial values under an assumption mean for the three texts. No latch is cut open.
use Rattle.std.specs.Prelude.{◌≡◌, ◌≤◌, ℕ, List, [], Option, Contains}
use Rattle.circuit_theory.specs.Fits.{IsPairDepth}
use Rattle.circuit_theory.specs.Interface.{AreNumbersOf}
use Rattle.circuit_laws.specs.reset_laws.Reset.{AreBased}
use Rattle.base_shelves.specs.Outside.{Takes}
use Rattle.sec_base.specs.declared.settings.Settings.{Settings}
use Rattle.flat_net.specs.View.{NetView, circuit_of, ports_of}
use Rattle.pair_decide.specs.declared.query.Proof.{Proof}
use Rattle.obligations.specs.declared.outcome.verdict.LimitAt.TheVariants as limit_at
use Rattle.obligations.specs.declared.outcome.verdict.ResetWitness.{ResetWitness}
use Rattle.obligations.specs.declared.outcome.verdict.Verdict.TheVariants as verdict
use Rattle.obligations.specs.declared.outcome.verdict.Outcome.{Outcome}
use Rattle.obligations.specs.outcome.Report.{report_text}
use Rattle.sec_setup.specs.ports.Pairs.{NamedPair, named_pairs}
use Rattle.plain_check.specs.under_base.Taken.{IsAssumed, assumed_by}
use Rattle.circuit_laws.specs.reset_laws.Reset.{reset_pair}
use Rattle.obligations.specs.Fits.{IsUndecided}
use Rattle.assume_laws.specs.Assume.{under}
use Rattle.plain_check.specs.under_base.under_fits.ResetOutcome.{numbers_of}
use Rattle.plain_check.specs.under_base.under_fits.ResetVerdict.{AgreeBeforeUnder}
use Rattle.plain_check.specs.under_base.Met.{shared_by}
use Rattle.job_base.specs.sec_files.Loading.{Loads}
use Rattle.pair_texts.specs.assume_texts.Agreement.{AgreeFromResetWhereMet, MakesResetsDifferWhereMet}
use Rattle.pair_texts.specs.assume_texts.Meets.{SequenceMeetsCircuit}
use Rattle.pair_texts.specs.assume_texts.Texts.{ThreeCircuits}

-- In any two runs of the circuits that the texts of A and of B spell that begin with the initial values, have equal inputs and meet the
-- assumption, each output is equal in every cycle. The same is said of the flat nets that the texts load as.
pub record ResetsAgreeUnder (x y z : List ℕ) (settings : Settings) (before now : Option (List ℕ)) : Type 0 where
  pub spelled : ThreeCircuits x y z
  pub outcome : Outcome
  pub is_verdict : outcome.verdict ≡ verdict.Equal
  pub uncut : outcome.exposed ≡ []
  pub printed : Takes before now (report_text settings outcome)
  pub says : AgreeFromResetWhereMet spelled.assumed spelled.left spelled.right
  pub nets_say : AgreeFromResetWhereMet (circuit_of spelled.assumed_net) (circuit_of spelled.left_net) (circuit_of spelled.right_net)

-- The sequence and the power-ups that are printed behind what was written before make the circuits that the texts of A and of B spell
-- differ: in runs from their initial values, and in no earlier cycle of those that meet the assumption. The sequence meets it in each cycle.
pub record ResetsDifferUnder (x y z : List ℕ) (settings : Settings) (before now : Option (List ℕ)) : Type 0 where
  pub spelled : ThreeCircuits x y z
  pub outcome : Outcome
  pub witness : ResetWitness
  pub is_verdict : outcome.verdict ≡ verdict.DifferentFrom witness
  pub uncut : outcome.exposed ≡ []
  pub printed : Takes before now (report_text settings outcome)
  pub says : MakesResetsDifferWhereMet spelled.assumed spelled.left spelled.right witness
  pub meets : SequenceMeetsCircuit spelled.assumed witness.witness.stimulus witness.witness.cycle

-- The report names a pair of outputs of the nets of A and of B. In a cycle up to the pair's depth, before which its functions agree under
-- the assumption, its query has more than 16 variables and met the limit, which one of the proofs shows: its clauses, and a log of exactly as
-- many chains as conflicts are allowed.
pub record ResetsUndecidedUnder (x y z : List ℕ) (settings : Settings) (proofs : List Proof) (before now : Option (List ℕ)) : Type 0 where
  pub left_net : NetView
  pub right_net : NetView
  pub assumed_net : NetView
  pub left_loads : Loads x left_net
  pub right_loads : Loads y right_net
  pub assumed_loads : Loads z assumed_net
  pub assumed : IsAssumed (shared_by left_net right_net) assumed_net
  pub outcome : Outcome
  pub uncut : outcome.exposed ≡ []
  pub left : List ℕ
  pub right : List ℕ
  pub left_numbers : AreNumbersOf (ports_of left_net).inputs (shared_by left_net right_net) left right
  pub right_numbers : AreNumbersOf (ports_of right_net).inputs (shared_by left_net right_net) right left
  pub left_base : ℕ
  pub right_base : ℕ
  pub based : AreBased (circuit_of left_net) (circuit_of right_net) left right left_base right_base
  pub named : NamedPair ℕ ℕ
  pub is_pair : Contains (named_pairs [] (circuit_of left_net) (circuit_of right_net)) named
  pub depth : ℕ
  pub is_depth : IsPairDepth (circuit_of left_net) (circuit_of right_net) named.left named.right depth
  pub cycle : ℕ
  pub within : cycle ≤ depth
  pub agree_before : AgreeBeforeUnder (assumed_by assumed) (numbers_of left_net right_net left right left_base right_base) named.left named.right cycle
  pub proof : Proof
  pub kept : Contains proofs proof
  pub undecided : IsUndecided (under (assumed_by assumed) (reset_pair (circuit_of left_net) (circuit_of right_net) left right left_base right_base named.left named.right cycle)) settings.conflicts proof
  pub is_verdict : outcome.verdict ≡ verdict.Limit (limit_at.Pair named.name)
  pub printed : Takes before now (report_text settings outcome)
