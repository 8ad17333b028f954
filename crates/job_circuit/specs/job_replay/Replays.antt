-- What is true where a replay of two circuits ends as it does. A text is given where it is told.
use Rattle.std.specs.Prelude.{◌≡◌, ℕ, Bool, List, [], ◌∷◌, length, Option, Ok, Err, IfSome, IsSomeAnd}
use Rattle.circuit_theory.specs.declared.Mode.{Mode}
use Rattle.circuit_theory.specs.declared.Mode.TheVariants.{Event}
use Rattle.circuit_theory.specs.declared.Side.{Side}
use Rattle.base_shelves.specs.Outside.{Takes}
use Rattle.flat_net.specs.View.{NetView}
use Rattle.pair_decide.specs.declared.query.Proof.{Proof}
use Rattle.sec_setup.specs.Matching.{InterfacesMatch}
use Rattle.circuit_report.specs.declared.sim_report.refusal.Misfit.TheVariants as misfit
use Rattle.circuit_report.specs.graph_report.Jobs.{AreLightIn}
use Rattle.latch_kinds.specs.declared.kinds.KindsError.TheVariants as kinds_error
use Rattle.cycle_sim.specs.declared.pair_runs.differences.Replayed.{Replayed}
use Rattle.job_circuit.specs.replay.replay_header.Header.{FitsBoth}
use Rattle.job_circuit.specs.declared.job_replay.fault.ReplayFault.TheVariants as fault
use Rattle.job_circuit.specs.declared.job_replay.replays.ReplayReport.{ReplayReport}
use Rattle.job_circuit.specs.declared.job_replay.replays.ReplayReport.TheVariants as told
use Rattle.job_circuit.specs.job_replay.Modes.{AreUnknown, ShowsReplay, ReplaysIn}
use Rattle.job_circuit.specs.job_replay.Told.{finding_of, FindsIn}
use Rattle.job_base.specs.sec_files.Loading.{IsAccepted, Loads, IsTooLong, HasFault, HasDesignFault, HasRecordFault}
use Rattle.job_base.specs.sec_files.Stimuli.{IsStimulus, HasBadHeader, HasBadRow}
use Rattle.job_base.specs.Lines.{undecided_text, finding_text}
use Rattle.job_base.specs.Written.{status_of}
use Rattle.job_base.specs.declared.status.StatusName.{StatusName}
use Rattle.job_base.specs.declared.status.StatusName.TheVariants as status
use Rattle.job_base.specs.declared.finding.File.{File}
use Rattle.job_base.specs.declared.finding.File.TheVariants as file
use Rattle.job_base.specs.declared.finding.LineFault.TheVariants as line_fault
use Rattle.job_base.specs.declared.finding.Refusal.{Refusal}
use Rattle.job_base.specs.declared.finding.Refusal.TheVariants as refusal
use Rattle.job_base.specs.declared.finding.Finding.{Finding}
use Rattle.job_base.specs.declared.finding.Finding.TheVariants as finding
use Rattle.job_base.specs.sec_files.job_files.Reading.{IsLoaded}

-- the paths of a replay, in the order of their fetches
abbrev pub replay_paths : List ℕ → List ℕ → List ℕ → List (List ℕ)
replay_paths left right stimulus = left ∷ right ∷ stimulus ∷ []

-- both texts load as nets, and the third spells a stimulus, of which this is said
pub record OfReplay (left right stimulus : Option (List ℕ)) (P : NetView → NetView → List (List ℕ) → List (List Bool) → Type 0) : Type 0 where
  pub a : NetView
  pub b : NetView
  pub names : List (List ℕ)
  pub rows : List (List Bool)
  pub left_loads : IfSome left (λ x. Loads x a)
  pub right_loads : IfSome right (λ y. Loads y b)
  pub spells : IfSome stimulus (λ z. IsStimulus z names rows)
  pub said : P a b names rows

-- what is said of the text of a circuit; B's is looked at only where A's loads
abbrev pub OfCircuit : Option (List ℕ) → Option (List ℕ) → File → (List ℕ → Type 0) → Type 0
OfCircuit left right file.A P = IfSome left P
OfCircuit left right file.B P = IsLoaded left × IfSome right P
OfCircuit left right file.C P = ⊥
OfCircuit left right file.S P = ⊥

-- what is said of the text of the stimulus, which is looked at only where both circuits load
abbrev pub OfStimulus : Option (List ℕ) → Option (List ℕ) → Option (List ℕ) → File → (List ℕ → Type 0) → Type 0
OfStimulus left right stimulus file.S P = IsLoaded left × IsLoaded right × IfSome stimulus P
OfStimulus left right stimulus other P = ⊥

-- why a replay is refused; the first cause in the order of the work
abbrev pub IsReplayRefusal : Mode → Option (List ℕ) → Option (List ℕ) → Option (List ℕ) → Refusal → Type 0
IsReplayRefusal mode left right stimulus (refusal.TooLong file.S) = OfStimulus left right stimulus file.S IsTooLong
IsReplayRefusal mode left right stimulus (refusal.TooLong f) = OfCircuit left right f IsTooLong
IsReplayRefusal mode left right stimulus (refusal.Text f line (line_fault.Circuit kind)) = OfCircuit left right f (λ x. HasFault x line kind)
IsReplayRefusal mode left right stimulus (refusal.Text f line line_fault.BadHeader) = OfStimulus left right stimulus f (λ z. HasBadHeader z line)
IsReplayRefusal mode left right stimulus (refusal.Text f line (line_fault.Clauses kind)) = ⊥
IsReplayRefusal mode left right stimulus (refusal.Text f line line_fault.BadRow) = OfStimulus left right stimulus f (λ z. HasBadRow z line)
IsReplayRefusal mode left right stimulus (refusal.Design f fault) = OfCircuit left right f (λ x. HasDesignFault x fault)
IsReplayRefusal mode left right stimulus (refusal.Record f place kind) = OfCircuit left right f (λ x. HasRecordFault x place kind)
IsReplayRefusal mode left right stimulus (refusal.Interface name) = OfReplay left right stimulus (λ a b names rows. ReplaysIn mode a b names rows (Err (fault.Interface name)))
IsReplayRefusal mode left right stimulus (refusal.TooLarge side) = OfReplay left right stimulus (λ a b names rows. ReplaysIn mode a b names rows (Err (fault.TooLarge side)))
IsReplayRefusal mode left right stimulus (refusal.Misfit (misfit.Unknown name)) = OfReplay left right stimulus (λ a b names rows. ReplaysIn mode a b names rows (Err (fault.Unknown name)))
IsReplayRefusal mode left right stimulus (refusal.Misfit (misfit.Missing name)) = OfReplay left right stimulus (λ a b names rows. ReplaysIn mode a b names rows (Err (fault.Missing name)))
IsReplayRefusal mode left right stimulus (refusal.Misfit misfit.Power) = ⊥
IsReplayRefusal mode left right stimulus refusal.TooManyEvents = ⊥
IsReplayRefusal mode left right stimulus (refusal.Assume fault) = ⊥
IsReplayRefusal mode left right stimulus refusal.Vacuous = ⊥
IsReplayRefusal mode left right stimulus (refusal.Pair name) = ⊥
IsReplayRefusal mode left right stimulus (refusal.Pairs fault) = ⊥

-- what is found where a replay is asked for
abbrev pub IsReplayFound : ReplayReport → Mode → Option (List ℕ) → Option (List ℕ) → Option (List ℕ) → Finding → Type 0
IsReplayFound report mode left right stimulus (finding.Refused r) = IsReplayRefusal mode left right stimulus r
IsReplayFound report mode left right stimulus (finding.Undecided side name proof) = OfReplay left right stimulus (λ a b names rows. ReplaysIn mode a b names rows (Err (fault.Limit side name proof)))
IsReplayFound report mode left right stimulus f = OfReplay left right stimulus (λ a b names rows. FindsIn report mode a b names rows (Ok f))

-- the finding has this status, and its whole report is taken
abbrev pub IsToldAs : StatusName → Option (List ℕ) → Option (List ℕ) → Finding → Type 0
IsToldAs name before now f = (status_of f ≡ name) × Takes before now (finding_text f)

-- The interfaces of both nets match, and what is told of them as it was asked for, by what they show, is taken whole and has this status.
pub record TakesReplay (report : ReplayReport) (mode : Mode) (left right stimulus before now : Option (List ℕ)) (name : StatusName) : Type 0 where
  pub replayed : Replayed
  pub shown : OfReplay left right stimulus (λ a b names rows. InterfacesMatch a b × ShowsReplay mode a b names rows replayed × IsToldAs name before now (finding_of report (length rows) replayed))

-- the report names a latch of a circuit, and the one proof shows that its query has met the limit, those of the latches before it being
-- decided
pub record TakesReplayLimit (mode : Mode) (left right stimulus : Option (List ℕ)) (proofs : List Proof) (before now : Option (List ℕ)) : Type 0 where
  pub side : Side
  pub name : List ℕ
  pub proof : Proof
  pub kept : proofs ≡ proof ∷ []
  pub shown : OfReplay left right stimulus (λ a b names rows. InterfacesMatch a b × AreUnknown mode a b side (kinds_error.Limit name proof))
  pub printed : Takes before now (undecided_text side name)

-- Both circuits' texts are accepted, their interfaces match, and it can be found out what their latches are; the third text spells a
-- stimulus whose header fits both.
pub record CanBeReplayed (mode : Mode) (x y z : List ℕ) : Type 0 where
  pub left : IsAccepted x
  pub right : IsAccepted y
  pub names : List (List ℕ)
  pub rows : List (List Bool)
  pub stimulus : IsStimulus z names rows
  pub match : (a b : NetView) → Loads x a → Loads y b → InterfacesMatch a b
  pub fits : (a b : NetView) → Loads x a → Loads y b → FitsBoth a b names
  pub left_light : (a : NetView) → Loads x a → AreLightIn mode a
  pub right_light : (b : NetView) → Loads y b → AreLightIn mode b

-- the three texts are told, and the circuits can be replayed
abbrev pub CanReplay : Mode → Option (List ℕ) → Option (List ℕ) → Option (List ℕ) → Type 0
CanReplay mode left right stimulus = IsSomeAnd left (λ x. IsSomeAnd right (λ y. IsSomeAnd stimulus (λ z. CanBeReplayed mode x y z)))

-- the statuses by what is to be told: whether there is a difference, and whether a pair is settled; or the report is done
abbrev pub IsStatusOf : ReplayReport → StatusName → Type 0
IsStatusOf told.Differences status.Equal = Unit {0}
IsStatusOf told.Differences status.Different = Unit {0}
IsStatusOf told.Differences other = ⊥
IsStatusOf told.DifferencesAndSettled status.Equal = Unit {0}
IsStatusOf told.DifferencesAndSettled status.Different = Unit {0}
IsStatusOf told.DifferencesAndSettled status.NotShown = Unit {0}
IsStatusOf told.DifferencesAndSettled other = ⊥
IsStatusOf told.Settled status.Done = Unit {0}
IsStatusOf told.Settled other = ⊥

-- a replay is reported, or want of memory; in the event mode also a query has met the limit
abbrev pub IsReplayed : ReplayReport → Mode → StatusName → Type 0
IsReplayed report mode status.NoMemory = Unit {0}
IsReplayed report mode status.Limit = mode ≡ Event
IsReplayed report mode other = IsStatusOf report other

-- What the status of a replay says: its report is taken whole, and the status is that of what both circuits show; or the limit of a query
-- is told in its place.
abbrev pub ReplayMeans : ReplayReport → Mode → Option (List ℕ) → Option (List ℕ) → Option (List ℕ) → Option (List ℕ) → Option (List ℕ) → List Proof → StatusName → Type 0
ReplayMeans report mode left right stimulus before now proofs status.Equal = TakesReplay report mode left right stimulus before now status.Equal
ReplayMeans report mode left right stimulus before now proofs status.Different = TakesReplay report mode left right stimulus before now status.Different
ReplayMeans report mode left right stimulus before now proofs status.NotShown = TakesReplay report mode left right stimulus before now status.NotShown
ReplayMeans report mode left right stimulus before now proofs status.Done = TakesReplay report mode left right stimulus before now status.Done
ReplayMeans report mode left right stimulus before now proofs status.Limit = TakesReplayLimit mode left right stimulus proofs before now
ReplayMeans report mode left right stimulus before now proofs other = Unit {0}

-- where the circuits can be replayed, they are, if no read and no write fails
abbrev pub IsReplayComplete : ReplayReport → Mode → Option (List ℕ) → Option (List ℕ) → Option (List ℕ) → StatusName → Type 0
IsReplayComplete report mode left right stimulus name = CanReplay mode left right stimulus → IsReplayed report mode name
