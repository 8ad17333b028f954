-- What is true of the files where a replay of what is known finds what it does. A text is given where it is told.
use Rattle.std.specs.Prelude.{◌⊎◌, ℕ, Bool, List, [], ◌∷◌, Option, Result, Ok, Err, IfSome}
use Rattle.flat_net.specs.View.{NetView}
use Rattle.circuit_report.specs.declared.sim_report.refusal.Misfit.TheVariants as misfit
use Rattle.job_base.specs.Ends.{EndsBy}
use Rattle.job_base.specs.Reading.{ReadFailedAfter}
use Rattle.job_base.specs.sec_files.Loading.{Loads, IsTooLong}
use Rattle.job_base.specs.sec_files.Stimuli.{IsStimulus, HasBadHeader, HasBadRow}
use Rattle.job_base.specs.sec_files.job_files.Reading.{IsLoaded, Held, ReadFailed}
use Rattle.job_base.specs.declared.finding.File.TheVariants as file
use Rattle.job_base.specs.declared.finding.LineFault.TheVariants as line_fault
use Rattle.job_base.specs.declared.finding.Refusal.{Refusal}
use Rattle.job_base.specs.declared.finding.Refusal.TheVariants as refusal
use Rattle.job_base.specs.declared.finding.Finding.{Finding}
use Rattle.job_base.specs.declared.finding.Finding.TheVariants as finding
use Rattle.job_base.specs.declared.finding.Stop.{Stop}
use Rattle.job_circuit.specs.SimBehind.{IsSpelled, LetsGoOn}
use Rattle.job_circuit.specs.job_replay.Replays.{OfReplay, replay_paths}
use Rattle.job_after.specs.declared.fault.AfterFault.{AfterFault}
use Rattle.job_after.specs.declared.fault.AfterFault.TheVariants as fault
use Rattle.job_after.specs.declared.judging.Judged.{Judged}
use Rattle.job_after.specs.Answer.{IsUnreadRefusal}
use Rattle.job_known.specs.Judged.{ReplaysFrom, ReplaysBehind}

-- why the circuits aren't run, where one of the files isn't loaded, or by what is judged of the circuits
abbrev pub IsKnownRefusal : (Refusal → Type 0) → (Result Judged AfterFault → Type 0) → Refusal → Type 0
IsKnownRefusal Unread Of (refusal.Misfit (misfit.Unknown name)) = Of (Err (fault.Unknown name))
IsKnownRefusal Unread Of (refusal.Misfit (misfit.Missing name)) = Of (Err (fault.Missing name))
IsKnownRefusal Unread Of (refusal.Misfit misfit.Power) = ⊥
IsKnownRefusal Unread Of (refusal.Interface name) = Of (Err (fault.Interface name))
IsKnownRefusal Unread Of other = Unread other

-- what is found by it
abbrev pub IsKnownFound : (Refusal → Type 0) → (Result Judged AfterFault → Type 0) → Finding → Type 0
IsKnownFound Unread Of (finding.Refused r) = IsKnownRefusal Unread Of r
IsKnownFound Unread Of (finding.Judged j proofs text) = Of (Ok (record { judgement = j; proofs = proofs; text = text }))
IsKnownFound Unread Of other = ⊥

-- what is judged of the circuits of two texts over the stimulus of the third, from their initial values
abbrev pub OfReset : Bool → Option (List ℕ) → Option (List ℕ) → Option (List ℕ) → Result Judged AfterFault → Type 0
OfReset settles left right stimulus judged = OfReplay left right stimulus (λ a b names rows. ReplaysFrom settles a b names rows judged)

abbrev pub IsResetFound : Bool → Option (List ℕ) → Option (List ℕ) → Option (List ℕ) → Finding → Type 0
IsResetFound settles left right stimulus f = IsKnownFound (IsUnreadRefusal left right stimulus) (OfReset settles left right stimulus) f

-- the paths where the circuits begin behind the rows of a stimulus, in the order of their fetches
abbrev pub known_paths : List ℕ → List ℕ → List ℕ → List ℕ → List (List ℕ)
known_paths left right before stimulus = left ∷ right ∷ before ∷ stimulus ∷ []

-- two texts load as nets, and the others spell the stimulus behind whose rows these begin, and the one that they are run over, of which this is said
pub record OfBegun (left right before stimulus : Option (List ℕ)) (P : NetView → NetView → List (List ℕ) → List (List Bool) → List (List ℕ) → List (List Bool) → Type 0) : Type 0 where
  pub a : NetView
  pub b : NetView
  pub first : List (List ℕ)
  pub first_rows : List (List Bool)
  pub names : List (List ℕ)
  pub rows : List (List Bool)
  pub left_loads : IfSome left (λ x. Loads x a)
  pub right_loads : IfSome right (λ y. Loads y b)
  pub begins : IfSome before (λ u. IsStimulus u first first_rows)
  pub spells : IfSome stimulus (λ z. IsStimulus z names rows)
  pub said : P a b first first_rows names rows

-- what is said of the text of the last stimulus, which is looked at only where the others are read
abbrev pub OfLast : Option (List ℕ) → Option (List ℕ) → Option (List ℕ) → Option (List ℕ) → (List ℕ → Type 0) → Type 0
OfLast left right before stimulus P = IsLoaded left × IsLoaded right × IsSpelled before × IfSome stimulus P

-- that text isn't a stimulus
abbrev pub IsMisread : Option (List ℕ) → Option (List ℕ) → Option (List ℕ) → Option (List ℕ) → Refusal → Type 0
IsMisread left right before stimulus (refusal.TooLong file.S) = OfLast left right before stimulus IsTooLong
IsMisread left right before stimulus (refusal.Text file.S line line_fault.BadHeader) = OfLast left right before stimulus (λ z. HasBadHeader z line)
IsMisread left right before stimulus (refusal.Text file.S line line_fault.BadRow) = OfLast left right before stimulus (λ z. HasBadRow z line)
IsMisread left right before stimulus other = ⊥

-- one of the four files isn't loaded
abbrev pub IsUnreadBehind : Option (List ℕ) → Option (List ℕ) → Option (List ℕ) → Option (List ℕ) → Refusal → Type 0
IsUnreadBehind left right before stimulus r = IsUnreadRefusal left right before r ⊎ IsMisread left right before stimulus r

-- what is judged of them behind the rows
abbrev pub OfBehind : Bool → Option (List ℕ) → Option (List ℕ) → Option (List ℕ) → Option (List ℕ) → Result Judged AfterFault → Type 0
OfBehind settles left right before stimulus judged = OfBegun left right before stimulus (λ a b first first_rows names rows. ReplaysBehind settles a b first first_rows names rows judged)

abbrev pub IsBehindFound : Bool → Option (List ℕ) → Option (List ℕ) → Option (List ℕ) → Option (List ℕ) → Finding → Type 0
IsBehindFound settles left right before stimulus f = IsKnownFound (IsUnreadBehind left right before stimulus) (OfBehind settles left right before stimulus) f

-- the work ends with a finding that is right, or by a read that failed, or at want of memory
abbrev pub ResetFound : Bool → Held → (List ℕ → ℕ) → (List ℕ → ℕ) → List ℕ → List ℕ → List ℕ → Result Finding Stop → Type 0
ResetFound settles held earlier now left right stimulus r = EndsBy (IsResetFound settles (held left) (held right) (held stimulus)) (ReadFailed held earlier now (replay_paths left right stimulus)) r

abbrev pub BehindFound : Bool → Held → (List ℕ → ℕ) → (List ℕ → ℕ) → List ℕ → List ℕ → List ℕ → List ℕ → Result Finding Stop → Type 0
BehindFound settles held earlier now left right before stimulus r =
    EndsBy (IsBehindFound settles (held left) (held right) (held before) (held stimulus)) (ReadFailedAfter LetsGoOn held earlier now (known_paths left right before stimulus)) r
