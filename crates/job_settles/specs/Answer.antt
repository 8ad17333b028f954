-- What the status of a comparison with the cares of its pairs says of the texts.
use Rattle.std.specs.Prelude.{◌≡◌, ℕ, List, Option, None, Some, All}
use Rattle.base_shelves.specs.Outside.{Takes}
use Rattle.obligations.specs.outcome.Proof.{Proof}
use Rattle.obligations.specs.outcome.Report.{report_text}
use Rattle.obligations.specs.declared.outcome.verdict.Outcome.{Outcome}
use Rattle.event_settles.specs.declared.cares.Care.TheVariants as care
use Rattle.event_settles.specs.declared.cares.PairCare.{PairCare}
use Rattle.job_base.specs.Written.{judgement_status, outcome_proofs, verdict_status}
use Rattle.job_base.specs.declared.status.StatusName.{StatusName}
use Rattle.job_base.specs.declared.status.StatusName.TheVariants as status
use Rattle.job_base.specs.sec_files.job_files.Reading.{Held}
use Rattle.job_check.specs.check_meaning.Answer.{CheckMeans}
use Rattle.job_check.specs.check_meaning.check_found.Check.{Check}
use Rattle.job_base.specs.sec_files.job_files.Texts.{OfNets, OfThreeNets}
use Rattle.job_settles.specs.Found.{IsSettledBy}
use Rattle.job_settles.specs.Report.{settles_judgement, settles_proofs, settles_text}
use Rattle.job_settles.specs.Says.{SaysNeverOfAll, SaysNeverOfAllUnder}

-- What is said of the nets that the texts load as, without an assumption; with one, in the runs that meet it.
abbrev pub NetsSayNever : Held → Check → Option (List ℕ) → Outcome → List PairCare → Type 0
NetsSayNever held check None o cares = OfNets (held check.left) (held check.right) (λ a b. SaysNeverOfAll a b o cares)
NetsSayNever held check (Some path) o cares = OfThreeNets (held check.left) (held check.right) (held path) (λ a b c. SaysNeverOfAllUnder a b c o cares)

abbrev pub TextsSayNever : Held → Check → Outcome → List PairCare → Type 0
TextsSayNever held check o cares = NetsSayNever held check check.assumed o cares

-- The comparison of the texts has this outcome, and these are the cares of its pairs: in the event mode exactly those that no frame has care for are told,
-- and they are settled in no two runs; the proof of each query that met the limit is kept, that of a care behind those of the pairs. The report is printed
-- behind what was written before. The outcome says of the texts what it says without cares, by the report that it has then.
pub record Settles (held : Held) (check : Check) (before now : Option (List ℕ)) (proofs : List Proof) (name : StatusName) : Type 0 where
  pub outcome : Outcome
  pub cares : List PairCare
  pub settled : IsSettledBy held check outcome cares
  pub says : TextsSayNever held check outcome cares
  pub printed : Takes before now (settles_text check.settings outcome cares)
  pub proofs_are : proofs ≡ settles_proofs outcome cares
  pub status_is : judgement_status (settles_judgement outcome.verdict cares) ≡ name
  pub without : (other : Option (List ℕ)) → Takes before other (report_text check.settings outcome) → CheckMeans held check before other (outcome_proofs outcome) (verdict_status outcome.verdict)

-- Equal says besides that each pair that was asked about has care in some frame.
abbrev pub SettlesMeans : Held → Check → Option (List ℕ) → Option (List ℕ) → List Proof → StatusName → Type 0
SettlesMeans held check before now proofs status.Equal = (s : Settles held check before now proofs status.Equal) × All (λ (c : PairCare). c.care ≡ care.Met) s.cares
SettlesMeans held check before now proofs status.Different = Settles held check before now proofs status.Different
SettlesMeans held check before now proofs status.NotShown = Settles held check before now proofs status.NotShown
SettlesMeans held check before now proofs status.Limit = Settles held check before now proofs status.Limit
SettlesMeans held check before now proofs status.Done = ⊥
SettlesMeans held check before now proofs other = Unit {0}
