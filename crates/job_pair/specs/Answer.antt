-- What the status says of two texts whose outputs of one name are compared, and when they can be compared.
use Rattle.std.specs.Prelude.{◌≡◌, ℕ, List, true, Option, Ok, Err, IsSomeAnd}
use Rattle.circuit_theory.specs.Circuit.{Circuit}
use Rattle.base_shelves.specs.Outside.{Takes}
use Rattle.sec_base.specs.declared.settings.Settings.{Settings}
use Rattle.flat_net.specs.View.{NetView, circuit_of}
use Rattle.net_names.specs.Alone.{IsAlone, only_output, shows_output}
use Rattle.blif_read.specs.Design.{Place}
use Rattle.pair_decide.specs.declared.query.Proof.{Proof}
use Rattle.obligations.specs.declared.outcome.verdict.Outcome.{Outcome}
use Rattle.obligations.specs.outcome.Report.{report_text}
use Rattle.event_setup.specs.event_meaning.event_meaning_under.CompareError.{CompareError}
use Rattle.event_setup.specs.event_meaning.event_meaning_under.CompareError.TheVariants as compare_error
use Rattle.event_setup.specs.event_meaning.event_names.event_fits.Compared.{ComparedIn}
use Rattle.job_base.specs.Written.{outcome_proofs, verdict_status}
use Rattle.job_base.specs.declared.status.StatusName.{StatusName}
use Rattle.job_base.specs.declared.status.StatusName.TheVariants as status
use Rattle.job_base.specs.sec_files.Loading.{IsAccepted, Loads, SpellsCircuit}
use Rattle.job_base.specs.sec_files.job_files.Reading.{Held}
use Rattle.job_check.specs.check_meaning.Answer.{IsAnswer}
use Rattle.job_check.specs.check_meaning.check_found.Check.{Check}
use Rattle.job_base.specs.sec_files.job_files.Texts.{OfTexts}
use Rattle.job_pair.specs.Found.{IsAnsweredAlone}
use Rattle.job_pair.specs.Says.{SaysOf}

-- The comparison of the nets that both texts load as, each with its outputs of this name alone, has this outcome, whose status, proofs and report are
-- those of the run. What it says it says of the circuits that the texts spell, each with its outputs of this name alone, and of the nets' circuits.
pub record PairAnswers (x y pair : List ℕ) (settings : Settings) (before now : Option (List ℕ)) (proofs : List Proof) (name : StatusName) : Type 0 where
  pub left_clock : Option (List ℕ)
  pub right_clock : Option (List ℕ)
  pub left : Circuit Place
  pub right : Circuit Place
  pub left_spelled : SpellsCircuit x left_clock left
  pub right_spelled : SpellsCircuit y right_clock right
  pub left_net : NetView
  pub right_net : NetView
  pub left_loads : Loads x left_net
  pub right_loads : Loads y right_net
  pub outcome : Outcome
  pub answered : IsAnsweredAlone pair settings left_net right_net (Ok outcome)
  pub status_is : verdict_status outcome.verdict ≡ name
  pub proofs_are : proofs ≡ outcome_proofs outcome
  pub printed : Takes before now (report_text settings outcome)
  pub says : SaysOf settings outcome (only_output pair left) (only_output pair right)
  pub nets_say : SaysOf settings outcome (only_output pair (circuit_of left_net)) (only_output pair (circuit_of right_net))

-- What the status says of the texts, with the proofs that the run ends with and what was written before and is now.
abbrev pub PairMeans : Held → List ℕ → Check → Option (List ℕ) → Option (List ℕ) → List Proof → StatusName → Type 0
PairMeans held pair check before now proofs status.Equal = OfTexts (held check.left) (held check.right) (λ x y. PairAnswers x y pair check.settings before now proofs status.Equal)
PairMeans held pair check before now proofs status.Different = OfTexts (held check.left) (held check.right) (λ x y. PairAnswers x y pair check.settings before now proofs status.Different)
PairMeans held pair check before now proofs status.NotShown = OfTexts (held check.left) (held check.right) (λ x y. PairAnswers x y pair check.settings before now proofs status.NotShown)
PairMeans held pair check before now proofs status.Limit = OfTexts (held check.left) (held check.right) (λ x y. PairAnswers x y pair check.settings before now proofs status.Limit)
PairMeans held pair check before now proofs status.Done = ⊥
PairMeans held pair check before now proofs other = Unit {0}

-- Both texts are accepted, the circuits of both have an output of this name, and with these outputs alone nothing but want of memory refuses them.
pub record ArePairComparable (x y pair : List ℕ) (settings : Settings) : Type 0 where
  pub left : IsAccepted x
  pub right : IsAccepted y
  pub shown : (a b : NetView) → Loads x a → Loads y b → (shows_output a pair ≡ true) × (shows_output b pair ≡ true)
  pub unrefused : (a b left right : NetView) → Loads x a → Loads y b → IsAlone pair a left → IsAlone pair b right →
      (error : CompareError) → ComparedIn settings.mode left right settings (Err error) → error ≡ compare_error.NoMemory

-- a comparison that can be made is answered, if no read and no write fails
abbrev pub IsPairComplete : Held → List ℕ → Check → StatusName → Type 0
IsPairComplete held pair check name = IsSomeAnd (held check.left) (λ x. IsSomeAnd (held check.right) (λ y. ArePairComparable x y pair check.settings)) → IsAnswer name
