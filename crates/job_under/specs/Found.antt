-- What is true of three files where the search under an assumption finds what it does. A text is given where it is told.
use Rattle.std.specs.Prelude.{◌≡◌, ℕ, List, [], ◌∷◌, Option, Some, IfSome, Err}
use Rattle.flat_net.specs.View.{NetView}
use Rattle.job_base.specs.sec_files.Loading.{IsTooLong, HasFault, HasDesignFault, HasRecordFault}
use Rattle.job_base.specs.sec_files.job_files.Reading.{IsLoaded}
use Rattle.job_base.specs.declared.finding.File.{File}
use Rattle.job_base.specs.declared.finding.Judgement.{Judgement}
use Rattle.job_base.specs.declared.finding.File.TheVariants as file
use Rattle.job_base.specs.declared.finding.LineFault.TheVariants as line_fault
use Rattle.job_base.specs.declared.finding.Refusal.{Refusal}
use Rattle.job_base.specs.declared.finding.Refusal.TheVariants as refusal
use Rattle.job_base.specs.declared.finding.Finding.{Finding}
use Rattle.job_base.specs.declared.finding.Finding.TheVariants as finding
use Rattle.pair_decide.specs.declared.query.Proof.{Proof}
use Rattle.pair_decide.specs.declared.query.SameBy.{SameBy}
use Rattle.job_base.specs.sec_files.job_files.Texts.{OfThreeNets}
use Rattle.cycle_under.specs.declared.found.UnderError.{UnderError}
use Rattle.cycle_under.specs.declared.found.UnderError.TheVariants as under
use Rattle.cycle_under.specs.Searches.{SearchesUnder}
use Rattle.job_under.specs.Judged.{IsJudged}

-- the paths that are read, in the order of their fetches
abbrev pub under_paths : List ℕ → List ℕ → List ℕ → List (List ℕ)
under_paths left right assumed = left ∷ right ∷ assumed ∷ []

-- What is said of the text of a file; B is looked at only where A loads, and C where both do. There is no stimulus.
abbrev pub OfFile : Option (List ℕ) → Option (List ℕ) → Option (List ℕ) → File → (List ℕ → Type 0) → Type 0
OfFile left right assumed file.A P = IfSome left P
OfFile left right assumed file.B P = IsLoaded left × IfSome right P
OfFile left right assumed file.C P = IsLoaded left × IsLoaded right × IfSome assumed P
OfFile left right assumed file.S P = ⊥

-- one of the files isn't loaded; the first in the order of the work
abbrev pub IsUnreadRefusal : Option (List ℕ) → Option (List ℕ) → Option (List ℕ) → Refusal → Type 0
IsUnreadRefusal left right assumed (refusal.TooLong f) = OfFile left right assumed f IsTooLong
IsUnreadRefusal left right assumed (refusal.Text f line (line_fault.Circuit kind)) = OfFile left right assumed f (λ x. HasFault x line kind)
IsUnreadRefusal left right assumed (refusal.Design f fault) = OfFile left right assumed f (λ x. HasDesignFault x fault)
IsUnreadRefusal left right assumed (refusal.Record f place kind) = OfFile left right assumed f (λ x. HasRecordFault x place kind)
IsUnreadRefusal left right assumed other = ⊥

-- what is found where one of the files isn't loaded
abbrev pub IsUnread : Option (List ℕ) → Option (List ℕ) → Option (List ℕ) → Finding → Type 0
IsUnread left right assumed (finding.Refused r) = IsUnreadRefusal left right assumed r
IsUnread left right assumed other = ⊥

-- what is asked of the nets that the texts load as is refused so
abbrev pub IsRefusedBy : (NetView → NetView → NetView → UnderError → Type 0) → Option (List ℕ) → Option (List ℕ) → Option (List ℕ) → UnderError → Type 0
IsRefusedBy Refuses left right assumed e = OfThreeNets left right assumed (λ a b c. Refuses a b c e)

-- why the circuits aren't compared; the first cause in the order of the work
abbrev pub IsRefusal : (NetView → NetView → NetView → UnderError → Type 0) → Option (List ℕ) → Option (List ℕ) → Option (List ℕ) → Refusal → Type 0
IsRefusal Refuses left right assumed (refusal.Interface name) = IsRefusedBy Refuses left right assumed (under.Interface name)
IsRefusal Refuses left right assumed (refusal.TooLarge side) = IsRefusedBy Refuses left right assumed (under.TooLarge side)
IsRefusal Refuses left right assumed (refusal.Assume fault) = IsRefusedBy Refuses left right assumed (under.Assume fault)
IsRefusal Refuses left right assumed refusal.Vacuous = (by : SameBy) × IsRefusedBy Refuses left right assumed (under.Vacuous by)
IsRefusal Refuses left right assumed other = IsUnreadRefusal left right assumed other

-- what is found of three files, by when their nets are refused and what is judged of them
abbrev pub IsFoundBy : (NetView → NetView → NetView → UnderError → Type 0) → (NetView → NetView → NetView → Judgement → List Proof → List ℕ → Type 0) → Option (List ℕ) → Option (List ℕ) → Option (List ℕ) → Finding → Type 0
IsFoundBy Refuses Judges left right assumed (finding.Refused r) = IsRefusal Refuses left right assumed r
IsFoundBy Refuses Judges left right assumed (finding.Judged j proofs text) = OfThreeNets left right assumed (λ a b c. Judges a b c j proofs text)
IsFoundBy Refuses Judges left right assumed other = ⊥

-- the search refuses so
abbrev pub SearchRefuses : ℕ → ℕ → NetView → NetView → NetView → UnderError → Type 0
SearchRefuses cycles conflicts a b c e = SearchesUnder a b c cycles conflicts (Err e)

-- what it finds of three files
abbrev pub IsUnderFound : ℕ → ℕ → Option (List ℕ) → Option (List ℕ) → Option (List ℕ) → Finding → Type 0
IsUnderFound cycles conflicts left right assumed f = IsFoundBy (SearchRefuses cycles conflicts) (λ a b c j proofs text. IsJudged a b c cycles conflicts j proofs text) left right assumed f
