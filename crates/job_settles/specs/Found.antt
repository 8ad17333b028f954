-- What is true of the files of a comparison with the cares of its pairs where it finds what it does, and how the work on it ends.
use Rattle.std.specs.Prelude.{◌≡◌, ◌≢◌, ◌⊎◌, ℕ, List, [], Option, Some, None, true, Result, Ok, Err, IfSome}
use Rattle.circuit_theory.specs.declared.Mode.TheVariants.{Event}
use Rattle.base_shelves.specs.Outside.{Rose}
use Rattle.sec_base.specs.declared.settings.Settings.{Settings}
use Rattle.flat_net.specs.View.{NetView}
use Rattle.obligations.specs.outcome.Proof.{Proof}
use Rattle.obligations.specs.outcome.Report.{knows_pairs}
use Rattle.obligations.specs.declared.outcome.verdict.Outcome.{Outcome}
use Rattle.event_check.specs.declared.event_answers.outcomes.Settled.{Settled}
use Rattle.event_settles.specs.declared.cares.PairCare.{PairCare}
use Rattle.event_setup.specs.event_meaning.event_meaning_under.CompareError.{CompareError}
use Rattle.job_base.specs.Ends.{EndsBy}
use Rattle.job_base.specs.declared.finding.File.TheVariants as file
use Rattle.job_base.specs.declared.finding.Finding.{Finding}
use Rattle.job_base.specs.declared.finding.Finding.TheVariants as finding
use Rattle.job_base.specs.declared.finding.Judgement.{Judgement}
use Rattle.job_base.specs.declared.finding.Stop.{Stop}
use Rattle.job_base.specs.declared.finding.Stop.TheVariants as stop
use Rattle.job_base.specs.declared.sec_files.loader.LoadError.{LoadError}
use Rattle.job_base.specs.sec_files.Loading.{Loads, LoadFails}
use Rattle.job_base.specs.sec_files.job_files.Ends.{load_end}
use Rattle.job_base.specs.sec_files.job_files.Reading.{Held, ReadFailed}
use Rattle.job_check.specs.check_meaning.check_found.Check.{Check, check_paths}
use Rattle.job_check.specs.check_meaning.check_found.Ends.{compare_end}
use Rattle.job_base.specs.sec_files.job_files.Texts.{OfNets, OfThreeNets}
use Rattle.job_check.specs.check_meaning.check_found.Found.{IsFoundOf}
use Rattle.job_settles.specs.Report.{settles_judgement, settles_proofs, settles_text}
use Rattle.job_settles.specs.Settled.{SettledIn, SettledUnderIn}

-- the comparison of the nets that two texts load as has this outcome, and these are the cares of its pairs
abbrev pub IsSettledByTwo : Held → Check → Outcome → List PairCare → Type 0
IsSettledByTwo held check o cares = OfNets (held check.left) (held check.right) (λ a b. SettledIn check.settings.mode a b check.settings (Ok (record { outcome = o; cares = cares })))

-- that of those of three
abbrev pub IsSettledByThree : Held → Check → List ℕ → Outcome → List PairCare → Type 0
IsSettledByThree held check path o cares =
    OfThreeNets (held check.left) (held check.right) (held path) (λ a b c. SettledUnderIn check.settings.mode a b c check.settings (Ok (record { outcome = o; cares = cares })))

-- without an assumption and with one
abbrev pub IsSettledGiven : Held → Check → Option (List ℕ) → Outcome → List PairCare → Type 0
IsSettledGiven held check None o cares = IsSettledByTwo held check o cares
IsSettledGiven held check (Some path) o cares = IsSettledByThree held check path o cares

-- the comparison that is asked for has this outcome, and these are the cares of its pairs
abbrev pub IsSettledBy : Held → Check → Outcome → List PairCare → Type 0
IsSettledBy held check o cares = IsSettledGiven held check check.assumed o cares

-- there is such an outcome, with this report, which says this, and the proofs of the queries that met the limit
pub record IsSettledFinding (held : Held) (check : Check) (j : Judgement) (kept : List Proof) (text : List ℕ) : Type 0 where
  pub outcome : Outcome
  pub cares : List PairCare
  pub settled : IsSettledBy held check outcome cares
  pub judged : j ≡ settles_judgement outcome.verdict cares
  pub proofs : kept ≡ settles_proofs outcome cares
  pub text_is : text ≡ settles_text check.settings outcome cares

-- what is true of the files where this is found of them; what is refused is refused as without cares
abbrev pub IsSettlesFound : Held → Check → Finding → Type 0
IsSettlesFound held check (finding.Judged j kept text) = IsSettledFinding held check j kept text
IsSettlesFound held check (finding.Checked o settings) = ⊥
IsSettlesFound held check other = IsFoundOf held check other

-- the work ends with a finding that is right, or by a read that failed, or at want of memory
abbrev pub SettlesFound : Held → (List ℕ → ℕ) → (List ℕ → ℕ) → Check → Result Finding Stop → Type 0
SettlesFound held before now check r = EndsBy (IsSettlesFound held check) (ReadFailed held before now (check_paths check)) r

-- what is found by a comparison
abbrev pub settled_finding : Settings → Settled → Finding
settled_finding settings s = finding.Judged (settles_judgement s.outcome.verdict s.cares) (settles_proofs s.outcome s.cares) (settles_text settings s.outcome s.cares)

-- it is that, or want of memory; what is refused ends as without cares
abbrev pub IsSettledEnd : Settings → Result Settled CompareError → Result Finding Stop → Type 0
IsSettledEnd settings (Ok s) r = (r ≡ Ok (settled_finding settings s)) ⊎ (r ≡ Err stop.NoMemory)
IsSettledEnd settings (Err error) r = r ≡ compare_end settings (Err error)

-- where there are cares, the mode is that of events, and pairs were asked about
abbrev pub CanTell : Settings → Result Settled CompareError → Type 0
CanTell settings (Ok s) = s.cares ≢ [] → (settings.mode ≡ Event) × (knows_pairs s.outcome.verdict ≡ true)
CanTell settings (Err error) = Unit {0}

-- How the work beside both nets ends: the assumption isn't loaded, where there is one, or both are compared.
abbrev pub SettlesBoth : Held → (List ℕ → ℕ) → (List ℕ → ℕ) → NetView → NetView → Settings → Option (List ℕ) → Result Finding Stop → Type 0
SettlesBoth held before now a b settings None r = (settled : Result Settled CompareError) × SettledIn settings.mode a b settings settled × IsSettledEnd settings settled r
SettlesBoth held before now a b settings (Some path) r =
    ((error : LoadError) × LoadFails (held path) (Rose (before path) (now path)) error × (r ≡ load_end file.C error))
    ⊎ ((c : NetView) × (settled : Result Settled CompareError) × IfSome (held path) (λ z. Loads z c) × SettledUnderIn settings.mode a b c settings settled × IsSettledEnd settings settled r)

-- How the work beside A's net ends: B's file isn't loaded, or the work goes on with both nets.
abbrev pub SettlesBeside : Held → (List ℕ → ℕ) → (List ℕ → ℕ) → NetView → List ℕ → Settings → Option (List ℕ) → Result Finding Stop → Type 0
SettlesBeside held before now a right settings assumed r =
    ((error : LoadError) × LoadFails (held right) (Rose (before right) (now right)) error × (r ≡ load_end file.B error))
    ⊎ ((b : NetView) × IfSome (held right) (λ y. Loads y b) × SettlesBoth held before now a b settings assumed r)
