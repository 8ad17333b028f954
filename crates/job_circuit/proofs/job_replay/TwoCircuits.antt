-- What the parts of the work on two circuits and a stimulus find.
use Rattle.std.specs.Prelude.{IfSome, IsErrOf}
use Rattle.std.proofs.Common.{◌≡◌, ℕ, ◌≤◌, Bool, List, [], ◌∷◌, length, refl, sym, subst, inl, inr, Option, Result, Ok, Err}
use Rattle.std.proofs.lemmas.List.Elements.{All-nil, All-cons}
use Rattle.circuit_theory.specs.declared.Mode.{Mode}
use Rattle.base_shelves.specs.Outside.{Rose}
use Rattle.flat_net.specs.View.{NetView}
use Rattle.cycle_sim.specs.declared.pair_runs.differences.Replayed.{Replayed}
use Rattle.job_circuit.specs.declared.job_replay.fault.ReplayFault.{ReplayFault}
use Rattle.job_circuit.specs.declared.job_replay.fault.ReplayFault.TheVariants as fault
use Rattle.job_circuit.specs.declared.job_replay.replays.ReplayReport.{ReplayReport}
use Rattle.job_circuit.specs.declared.job_replay.replays.ReplayReport.TheVariants as told
use Rattle.job_circuit.specs.job_replay.Modes.{ReplaysIn}
use Rattle.job_circuit.specs.job_replay.Told.{finding_of, FindsIn}
use Rattle.job_base.specs.declared.sec_files.loader.LoadError.{LoadError}
use Rattle.job_base.specs.declared.sec_files.stimuli.StimulusError.{StimulusError}
use Rattle.job_base.specs.sec_files.Loading.{Loads, LoadFails}
use Rattle.job_base.specs.sec_files.Stimuli.{IsStimulus, StimulusFails}
use Rattle.job_base.specs.declared.finding.File.TheVariants as file
use Rattle.job_base.specs.declared.finding.Finding.{Finding}
use Rattle.job_base.specs.declared.finding.Stop.{Stop}
use Rattle.job_base.specs.declared.finding.Stop.TheVariants as stop
use Rattle.job_base.specs.Ends.{EndsBy}
use Rattle.job_base.specs.sec_files.job_files.Ends.{load_end, stimulus_end}
use Rattle.job_base.specs.sec_files.job_files.Reading.{IsLoaded, Held, ReadFailed}
use Rattle.job_base.proofs.sec_files.job_files.Loading.{load_ends, stimulus_ends, later_fails, later_stimulus}
use Rattle.job_base.proofs.sec_files.job_files.Reading.{first_failed, second_failed, is_loaded}
use Rattle.job_circuit.specs.job_replay.Replays.{OfReplay, IsReplayFound}
use Rattle.job_circuit.specs.job_replay.Ends.{ReplayJob, replay_end, EndsOver, EndsWithBoth, ReplayFound}

-- a finding of what both nets show is one of the replay
pub is_found : (report : ReplayReport) (mode : Mode) (left right stimulus : Option (List ℕ)) (f : Finding) → OfReplay left right stimulus (λ a b names rows. FindsIn report mode a b names rows (Ok f)) → IsReplayFound report mode left right stimulus f
is_found report mode left right stimulus f h = subst (IsReplayFound report mode left right stimulus) (sym h.said.2) (go report h.said.0 h.said.1)
  where
    go : (told : ReplayReport) (r : Replayed) → ReplaysIn mode h.a h.b h.names h.rows (Ok r) → IsReplayFound told mode left right stimulus (finding_of told (length h.rows) r)
    go told.Differences r c = record { a = h.a; b = h.b; names = h.names; rows = h.rows; left_loads = h.left_loads; right_loads = h.right_loads; spells = h.spells; said = (r, c, refl) }
    go told.DifferencesAndSettled r c = record { a = h.a; b = h.b; names = h.names; rows = h.rows; left_loads = h.left_loads; right_loads = h.right_loads; spells = h.spells; said = (r, c, refl) }
    go told.Settled r c = record { a = h.a; b = h.b; names = h.names; rows = h.rows; left_loads = h.left_loads; right_loads = h.right_loads; spells = h.spells; said = (r, c, refl) }

-- both circuits are run over the stimulus
pub nets_end : (report : ReplayReport) (mode : Mode) (left right stimulus : Option (List ℕ)) (failed : Type 0) (a b : NetView) (names : List (List ℕ)) (rows : List (List Bool)) (found : Result Finding ReplayFault) → IfSome left (λ x. Loads x a) →
    IfSome right (λ y. Loads y b) → IfSome stimulus (λ z. IsStimulus z names rows) → FindsIn report mode a b names rows found → EndsBy (IsReplayFound report mode left right stimulus) failed (replay_end found)
nets_end report mode left right stimulus failed a b names rows (Ok f) l r s c = is_found report mode left right stimulus f (record { a = a; b = b; names = names; rows = rows; left_loads = l; right_loads = r; spells = s; said = c })
nets_end report mode left right stimulus failed a b names rows (Err (fault.Interface name)) l r s c = record { a = a; b = b; names = names; rows = rows; left_loads = l; right_loads = r; spells = s; said = c }
nets_end report mode left right stimulus failed a b names rows (Err (fault.TooLarge side)) l r s c = record { a = a; b = b; names = names; rows = rows; left_loads = l; right_loads = r; spells = s; said = c }
nets_end report mode left right stimulus failed a b names rows (Err (fault.Limit side name proof)) l r s c = record { a = a; b = b; names = names; rows = rows; left_loads = l; right_loads = r; spells = s; said = c }
nets_end report mode left right stimulus failed a b names rows (Err (fault.Unknown name)) l r s c = record { a = a; b = b; names = names; rows = rows; left_loads = l; right_loads = r; spells = s; said = c }
nets_end report mode left right stimulus failed a b names rows (Err (fault.Missing name)) l r s c = record { a = a; b = b; names = names; rows = rows; left_loads = l; right_loads = r; spells = s; said = c }
nets_end report mode left right stimulus failed a b names rows (Err fault.NoMemory) l r s c = tt

-- a replay ends with no read fault
pub no_fault_replayed : (r : Result Finding ReplayFault) → IsErrOf (replay_end r) stop.ReadFault → ⊥
no_fault_replayed (Ok f) h = absurd (cc)
no_fault_replayed (Err (fault.Interface name)) h = absurd (cc)
no_fault_replayed (Err (fault.TooLarge side)) h = absurd (cc)
no_fault_replayed (Err (fault.Limit side name proof)) h = absurd (cc)
no_fault_replayed (Err (fault.Unknown name)) h = absurd (cc)
no_fault_replayed (Err (fault.Missing name)) h = absurd (cc)
no_fault_replayed (Err fault.NoMemory) h = absurd (cc)

-- what is found beside both nets at a later time is found at the earlier
pub over_later : (report : ReplayReport) (mode : Mode) (later held : Option (List ℕ)) (a b c : ℕ) (m k : NetView) (r : Result Finding Stop) → later ≡ held → a ≤ b → EndsOver report mode later (Rose b c) m k r → EndsOver report mode held (Rose a c) m k r
over_later report mode later held a b c m k r same grew (inl h) = inl (h.0, later_stimulus later held a b c h.0 same grew h.1, h.2)
over_later report mode later held a b c m k r same grew (inr h) = inr (h.0, h.1, h.2, subst (λ (o : Option (List ℕ)). IfSome o (λ z. IsStimulus z h.0 h.1)) same h.3, h.4, h.5)

module _ (held : Held) (before now : List ℕ → ℕ) (job : ReplayJob) where
  abbrev Found : Finding → Type 0
  Found = IsReplayFound job.report job.mode (held job.left) (held job.right) (held job.stimulus)

  abbrev Failed : Type 0
  Failed = ReadFailed held before now (job.left ∷ job.right ∷ job.stimulus ∷ [])

  -- A's file isn't loaded
  pub left_ends : (error : LoadError) → LoadFails (held job.left) (Rose (before job.left) (now job.left)) error → EndsBy Found Failed (load_end file.A error)
  left_ends error h =
      load_ends Found Failed (Rose (before job.left) (now job.left)) (held job.left) file.A (λ long. long) (λ line kind faulty. faulty) (λ fault unsound. unsound) (λ place kind misread. misread)
      (first_failed held before now job.left (job.right ∷ job.stimulus ∷ [])) error h

  -- B's isn't, beside A's
  right_ends : IsLoaded (held job.left) → (error : LoadError) → LoadFails (held job.right) (Rose (before job.right) (now job.right)) error → EndsBy Found Failed (load_end file.B error)
  right_ends l error h =
      load_ends Found Failed (Rose (before job.right) (now job.right)) (held job.right) file.B (λ long. (l, long)) (λ line kind faulty. (l, faulty)) (λ fault unsound. (l, unsound)) (λ place kind misread. (l, misread))
      (second_failed held before now job.left job.right (job.stimulus ∷ []) l) error h

  -- both circuits are loaded, and the read behind them failed
  third_failed : IsLoaded (held job.left) → IsLoaded (held job.right) → Rose (before job.stimulus) (now job.stimulus) → Failed
  third_failed l r rose =
      let P : List ℕ → Type 0 = λ earlier. IsLoaded (held earlier) in
      record { fetch = 2; path = job.stimulus; is_path = refl; rose = rose; reached = All-cons P job.left (job.right ∷ []) l (All-cons P job.right [] r (All-nil P)) }

  -- the stimulus isn't loaded, beside both circuits
  over_ends : IsLoaded (held job.left) → IsLoaded (held job.right) → (error : StimulusError) → StimulusFails (held job.stimulus) (Rose (before job.stimulus) (now job.stimulus)) error → EndsBy Found Failed (stimulus_end error)
  over_ends l r error h =
      stimulus_ends Found Failed (Rose (before job.stimulus) (now job.stimulus)) (held job.stimulus) (λ long. (l, r, long)) (λ line headless. (l, r, headless)) (λ line rowless. (l, r, rowless)) (third_failed l r) error h

  -- what is found beside A's net is found of all files; what is held and the faults are those of a later time
  pub beside_found : (a : NetView) (right stimulus : Option (List ℕ)) (right_middle middle : ℕ) (r : Result Finding Stop) → IfSome (held job.left) (λ x. Loads x a) → right ≡ held job.right → before job.right ≤ right_middle →
      stimulus ≡ held job.stimulus → before job.stimulus ≤ middle → EndsWithBoth job.report job.mode right (Rose right_middle (now job.right)) stimulus (Rose middle (now job.stimulus)) a r → ReplayFound held before now job r
  beside_found a right stimulus right_middle middle r l same grew told later (inl h) =
      subst (λ (e : Result Finding Stop). ReplayFound held before now job e) (sym h.2)
      (right_ends (is_loaded (held job.left) a l) h.0 (later_fails right (held job.right) (before job.right) right_middle (now job.right) h.0 same grew h.1))
  beside_found a right stimulus right_middle middle r l same grew told later (inr h) = go (over_later job.report job.mode stimulus (held job.stimulus) (before job.stimulus) middle (now job.stimulus) a h.0 r told later h.2)
    where
      b_loads : IfSome (held job.right) (λ y. Loads y h.0)
      b_loads = subst (λ (o : Option (List ℕ)). IfSome o (λ y. Loads y h.0)) same h.1

      go : EndsOver job.report job.mode (held job.stimulus) (Rose (before job.stimulus) (now job.stimulus)) a h.0 r → ReplayFound held before now job r
      go (inl e) = subst (λ (q : Result Finding Stop). ReplayFound held before now job q) (sym e.2) (over_ends (is_loaded (held job.left) a l) (is_loaded (held job.right) h.0 b_loads) e.0 e.1)
      go (inr e) =
          subst (λ (q : Result Finding Stop). ReplayFound held before now job q) (sym e.5)
          (nets_end job.report job.mode (held job.left) (held job.right) (held job.stimulus) Failed a h.0 e.0 e.1 e.2 l b_loads e.3 e.4)
