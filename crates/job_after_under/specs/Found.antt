-- What is true of four files where a comparison behind the rows of a stimulus under an assumption finds what it does. A text is given where it
-- is told.
use Rattle.std.specs.Prelude.{◌≡◌, ◌⊎◌, ℕ, Bool, List, [], ◌∷◌, Option, Err, IfSome}
use Rattle.flat_net.specs.View.{NetView}
use Rattle.circuit_report.specs.declared.sim_report.refusal.Misfit.TheVariants as misfit
use Rattle.pair_decide.specs.declared.query.Proof.{Proof}
use Rattle.pair_decide.specs.declared.query.SameBy.{SameBy}
use Rattle.job_circuit.specs.declared.replay.replay_header.error.ReplayError.TheVariants as header
use Rattle.job_circuit.specs.replay.replay_header.Header.{FitsOr}
use Rattle.job_base.specs.sec_files.job_files.Reading.{IsLoaded}
use Rattle.job_base.specs.sec_files.Loading.{Loads, IsTooLong}
use Rattle.job_base.specs.sec_files.Stimuli.{IsStimulus, HasBadHeader, HasBadRow}
use Rattle.job_base.specs.declared.finding.File.TheVariants as file
use Rattle.job_base.specs.declared.finding.LineFault.TheVariants as line_fault
use Rattle.job_base.specs.declared.finding.Judgement.{Judgement}
use Rattle.job_base.specs.declared.finding.Refusal.{Refusal}
use Rattle.job_base.specs.declared.finding.Refusal.TheVariants as refusal
use Rattle.job_base.specs.declared.finding.Finding.{Finding}
use Rattle.job_base.specs.declared.finding.Finding.TheVariants as finding
use Rattle.cycle_under.specs.declared.found.UnderError.{UnderError}
use Rattle.cycle_under.specs.declared.found.UnderError.TheVariants as under
use Rattle.job_after.specs.Answer.{IsUnfit, IsRefusedSearch}
use Rattle.job_under.specs.Found as three
use Rattle.job_under.specs.Found.{SearchRefuses}
use Rattle.job_after_under.specs.Judged.{IsJudged}

-- the paths that are read, in the order of their fetches
abbrev pub after_under_paths : List ℕ → List ℕ → List ℕ → List ℕ → List (List ℕ)
after_under_paths left right assumed stimulus = left ∷ right ∷ assumed ∷ stimulus ∷ []

-- three texts load as nets, and the fourth spells a stimulus, of which this is said
pub record OfFour (left right assumed stimulus : Option (List ℕ)) (P : NetView → NetView → NetView → List (List ℕ) → List (List Bool) → Type 0) : Type 0 where
  pub a : NetView
  pub b : NetView
  pub c : NetView
  pub names : List (List ℕ)
  pub rows : List (List Bool)
  pub left_loads : IfSome left (λ x. Loads x a)
  pub right_loads : IfSome right (λ y. Loads y b)
  pub assumed_loads : IfSome assumed (λ u. Loads u c)
  pub spells : IfSome stimulus (λ z. IsStimulus z names rows)
  pub said : P a b c names rows

-- what is said of the text of the stimulus, which is looked at only where all three circuits load
abbrev pub OfLast : Option (List ℕ) → Option (List ℕ) → Option (List ℕ) → Option (List ℕ) → (List ℕ → Type 0) → Type 0
OfLast left right assumed stimulus P = IsLoaded left × IsLoaded right × IsLoaded assumed × IfSome stimulus P

-- the stimulus isn't one, the circuits being loaded
abbrev pub IsMisread : Option (List ℕ) → Option (List ℕ) → Option (List ℕ) → Option (List ℕ) → Refusal → Type 0
IsMisread left right assumed stimulus (refusal.TooLong file.S) = OfLast left right assumed stimulus IsTooLong
IsMisread left right assumed stimulus (refusal.Text file.S line line_fault.BadHeader) = OfLast left right assumed stimulus (λ z. HasBadHeader z line)
IsMisread left right assumed stimulus (refusal.Text file.S line line_fault.BadRow) = OfLast left right assumed stimulus (λ z. HasBadRow z line)
IsMisread left right assumed stimulus other = ⊥

-- one of the files isn't loaded; the first in the order of the work
abbrev pub IsUnreadRefusal : Option (List ℕ) → Option (List ℕ) → Option (List ℕ) → Option (List ℕ) → Refusal → Type 0
IsUnreadRefusal left right assumed stimulus r = three.IsUnreadRefusal left right assumed r ⊎ IsMisread left right assumed stimulus r

-- what is found where one of the files isn't loaded
abbrev pub IsUnread : Option (List ℕ) → Option (List ℕ) → Option (List ℕ) → Option (List ℕ) → Finding → Type 0
IsUnread left right assumed stimulus (finding.Refused r) = IsUnreadRefusal left right assumed stimulus r
IsUnread left right assumed stimulus other = ⊥

-- what is asked of the nets as they begin behind the rows is refused so
abbrev pub IsRefusedBy : (NetView → NetView → NetView → UnderError → Type 0) → Option (List ℕ) → Option (List ℕ) → Option (List ℕ) → Option (List ℕ) → UnderError → Type 0
IsRefusedBy Refuses left right assumed stimulus e = OfFour left right assumed stimulus (λ a b c names rows. IsRefusedSearch a b names rows (λ l r. Refuses l r c e))

-- why the circuits aren't compared; the first cause in the order of the work
abbrev pub IsRefusal : (NetView → NetView → NetView → UnderError → Type 0) → Option (List ℕ) → Option (List ℕ) → Option (List ℕ) → Option (List ℕ) → Refusal → Type 0
IsRefusal Refuses left right assumed stimulus (refusal.Misfit (misfit.Unknown name)) = OfFour left right assumed stimulus (λ a b c names rows. IsUnfit a b names name)
IsRefusal Refuses left right assumed stimulus (refusal.Misfit (misfit.Missing name)) = OfFour left right assumed stimulus (λ a b c names rows. FitsOr a b names (Err (header.Missing name)))
IsRefusal Refuses left right assumed stimulus (refusal.Misfit misfit.Power) = ⊥
IsRefusal Refuses left right assumed stimulus (refusal.Interface name) = IsRefusedBy Refuses left right assumed stimulus (under.Interface name)
IsRefusal Refuses left right assumed stimulus (refusal.TooLarge side) = IsRefusedBy Refuses left right assumed stimulus (under.TooLarge side)
IsRefusal Refuses left right assumed stimulus (refusal.Assume fault) = IsRefusedBy Refuses left right assumed stimulus (under.Assume fault)
IsRefusal Refuses left right assumed stimulus refusal.Vacuous = (by : SameBy) × IsRefusedBy Refuses left right assumed stimulus (under.Vacuous by)
IsRefusal Refuses left right assumed stimulus other = IsUnreadRefusal left right assumed stimulus other

-- what is found of four files, by when the nets that begin are refused and what is judged of the nets
abbrev pub IsFoundBy : (NetView → NetView → NetView → UnderError → Type 0) → (NetView → NetView → NetView → List (List ℕ) → List (List Bool) → Judgement → List Proof → List ℕ → Type 0) → Option (List ℕ) → Option (List ℕ) → Option (List ℕ) → Option (List ℕ) → Finding → Type 0
IsFoundBy Refuses Judges left right assumed stimulus (finding.Refused r) = IsRefusal Refuses left right assumed stimulus r
IsFoundBy Refuses Judges left right assumed stimulus (finding.Judged j proofs text) = OfFour left right assumed stimulus (λ a b c names rows. Judges a b c names rows j proofs text)
IsFoundBy Refuses Judges left right assumed stimulus other = ⊥

-- what the search finds of four files
abbrev pub IsAfterUnderFound : ℕ → ℕ → Option (List ℕ) → Option (List ℕ) → Option (List ℕ) → Option (List ℕ) → Finding → Type 0
IsAfterUnderFound cycles conflicts left right assumed stimulus f = IsFoundBy (SearchRefuses cycles conflicts) (λ a b c names rows j proofs text. IsJudged a b c names rows cycles conflicts j proofs text) left right assumed stimulus f
