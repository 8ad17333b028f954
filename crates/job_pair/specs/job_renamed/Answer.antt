-- What the status says of two texts that are compared, with the latches of the second under the names that a third gives them, and when they can be.
use Rattle.std.specs.Prelude.{◌≡◌, ◌≤◌, ℕ, List, length, Option, Ok, Err, IfSome, IsSomeAnd}
use Rattle.circuit_theory.specs.Circuit.{Circuit}
use Rattle.base_shelves.specs.Outside.{Takes}
use Rattle.sec_base.specs.declared.limits.TheConstants.{MAX_FILE_BYTES}
use Rattle.sec_base.specs.declared.settings.Settings.{Settings}
use Rattle.flat_net.specs.View.{NetView, circuit_of}
use Rattle.net_names.specs.Renamed.{IsRenamed, renamed}
use Rattle.net_names.specs.declared.latch_pairs.LatchPair.{LatchPair}
use Rattle.blif_read.specs.Design.{Place}
use Rattle.pair_decide.specs.declared.query.Proof.{Proof}
use Rattle.obligations.specs.declared.outcome.verdict.Outcome.{Outcome}
use Rattle.obligations.specs.outcome.Report.{report_text}
use Rattle.event_setup.specs.event_meaning.event_meaning_under.CompareError.{CompareError}
use Rattle.event_setup.specs.event_meaning.event_meaning_under.CompareError.TheVariants as compare_error
use Rattle.event_setup.specs.event_meaning.event_names.event_fits.Compared.{ComparedIn}
use Rattle.job_base.specs.Written.{outcome_proofs, verdict_status}
use Rattle.job_base.specs.declared.finding.PairKind.{PairKind}
use Rattle.job_base.specs.declared.status.StatusName.{StatusName}
use Rattle.job_base.specs.declared.status.StatusName.TheVariants as status
use Rattle.job_base.specs.sec_files.Loading.{IsAccepted, Loads, SpellsCircuit}
use Rattle.job_base.specs.sec_files.job_files.Reading.{Held}
use Rattle.job_check.specs.check_meaning.Answer.{IsAnswer}
use Rattle.job_check.specs.check_meaning.check_found.Check.{Check}
use Rattle.job_base.specs.sec_files.job_files.Texts.{OfTexts}
use Rattle.job_pair.specs.Says.{SaysOf}
use Rattle.job_pair.specs.job_renamed.Texts.{HasFaultyPair, IsRenamedBy, PairsLatches}

-- The third text pairs latches of the nets that both others load as. The comparison of A's net with B's, whose latches have the names of those that
-- they are paired with, has this outcome, whose status, proofs and report are those of the run. What it says it says of A's circuit and of B's, whose
-- latches have these names: of those that the texts spell, and of the nets'.
pub record RenamedAnswers (x y z : List ℕ) (settings : Settings) (before now : Option (List ℕ)) (proofs : List Proof) (name : StatusName) : Type 0 where
  pub left_clock : Option (List ℕ)
  pub right_clock : Option (List ℕ)
  pub left : Circuit Place
  pub right : Circuit Place
  pub left_spelled : SpellsCircuit x left_clock left
  pub right_spelled : SpellsCircuit y right_clock right
  pub left_net : NetView
  pub right_net : NetView
  pub left_loads : Loads x left_net
  pub right_loads : Loads y right_net
  pub pairs : List LatchPair
  pub paired : PairsLatches z left_net right_net pairs
  pub renamed_net : NetView
  pub is_renamed : IsRenamed pairs right_net renamed_net
  pub outcome : Outcome
  pub compared : ComparedIn settings.mode left_net renamed_net settings (Ok outcome)
  pub status_is : verdict_status outcome.verdict ≡ name
  pub proofs_are : proofs ≡ outcome_proofs outcome
  pub printed : Takes before now (report_text settings outcome)
  pub says : SaysOf settings outcome left (renamed pairs right)
  pub nets_say : SaysOf settings outcome (circuit_of left_net) (renamed pairs (circuit_of right_net))

-- both circuits load, and this is said of three texts
abbrev pub OfThreeTexts : Held → Check → List ℕ → (List ℕ → List ℕ → List ℕ → Type 0) → Type 0
OfThreeTexts held check pairs P = OfTexts (held check.left) (held check.right) (λ x y. IfSome (held pairs) (λ z. P x y z))

-- What the status says of the texts, with the proofs that the run ends with and what was written before and is now.
abbrev pub RenamedMeans : Held → Check → List ℕ → Option (List ℕ) → Option (List ℕ) → List Proof → StatusName → Type 0
RenamedMeans held check pairs before now proofs status.Equal = OfThreeTexts held check pairs (λ x y z. RenamedAnswers x y z check.settings before now proofs status.Equal)
RenamedMeans held check pairs before now proofs status.Different = OfThreeTexts held check pairs (λ x y z. RenamedAnswers x y z check.settings before now proofs status.Different)
RenamedMeans held check pairs before now proofs status.NotShown = OfThreeTexts held check pairs (λ x y z. RenamedAnswers x y z check.settings before now proofs status.NotShown)
RenamedMeans held check pairs before now proofs status.Limit = OfThreeTexts held check pairs (λ x y z. RenamedAnswers x y z check.settings before now proofs status.Limit)
RenamedMeans held check pairs before now proofs status.Done = ⊥
RenamedMeans held check pairs before now proofs other = Unit {0}

-- Both texts of circuits are accepted, no line of the third is faulty, and nothing but want of memory refuses the comparison under its names.
pub record AreRenamedComparable (x y z : List ℕ) (settings : Settings) : Type 0 where
  pub left : IsAccepted x
  pub right : IsAccepted y
  pub short : length z ≤ MAX_FILE_BYTES
  pub faultless : (a b : NetView) → Loads x a → Loads y b → (line : ℕ) (kind : PairKind) → HasFaultyPair z a b line kind → ⊥
  pub unrefused : (a b right : NetView) → Loads x a → Loads y b → IsRenamedBy z a b right → (error : CompareError) → ComparedIn settings.mode a right settings (Err error) → error ≡ compare_error.NoMemory

-- a comparison that can be made is answered, if no read and no write fails
abbrev pub IsRenamedComplete : Held → Check → List ℕ → StatusName → Type 0
IsRenamedComplete held check pairs name =
    IsSomeAnd (held check.left) (λ x. IsSomeAnd (held check.right) (λ y. IsSomeAnd (held pairs) (λ z. AreRenamedComparable x y z check.settings))) → IsAnswer name
