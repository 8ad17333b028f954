-- How a comparison by ties of signals ends.
use Rattle.std.specs.Prelude.{◌≡◌, ◌⊎◌, ℕ, List, [], Option, Some, None, Result, Ok, Err, IfSome}
use Rattle.circuit_theory.specs.Interface.{first_mismatch}
use Rattle.flat_net.specs.View.{NetView, ports_of}
use Rattle.sec_setup.specs.declared.error.SetupError.{SetupError}
use Rattle.sec_setup.specs.declared.error.SetupError.TheVariants as unset
use Rattle.induct.specs.declared.induction.InductError.{InductError}
use Rattle.induct.specs.declared.induction.InductError.TheVariants as refused
use Rattle.induct.specs.Inductions.{IsRefusal}
use Rattle.job_base.specs.sec_files.Loading.{Loads, LoadFails}
use Rattle.job_base.specs.declared.sec_files.loader.LoadError.{LoadError}
use Rattle.job_base.specs.Ends.{EndsBy}
use Rattle.job_base.specs.declared.finding.File.TheVariants as file
use Rattle.job_base.specs.declared.finding.Refusal.TheVariants as refusal
use Rattle.job_base.specs.declared.finding.Finding.{Finding}
use Rattle.job_base.specs.declared.finding.Finding.TheVariants as finding
use Rattle.job_base.specs.declared.finding.Stop.{Stop}
use Rattle.job_base.specs.declared.finding.Stop.TheVariants as stop
use Rattle.job_base.specs.sec_files.job_files.Ends.{load_end}
use Rattle.job_base.specs.sec_files.job_files.Reading.{Held, ReadFailed}
use Rattle.sec_jobs.specs.job_induct.induct_meaning.Found.{induct_paths}
use Rattle.job_signals.specs.Judged.{IsJudged}
use Rattle.job_signals.specs.Found.{IsSignalsFound}
use Rattle.job_signals.specs.declared.judging.Judged.{Judged}
use Rattle.job_signals.specs.declared.judging.JudgeError.{JudgeError}
use Rattle.job_signals.specs.declared.judging.JudgeError.TheVariants as judge

-- interfaces that don't match, or want of memory
abbrev pub IsMismatch : SetupError → Type 0
IsMismatch (unset.Interface name) = Unit {0}
IsMismatch unset.NoMemory = Unit {0}
IsMismatch other = ⊥

-- its refusal
abbrev pub mismatch_of : SetupError → JudgeError
mismatch_of (unset.Interface name) = judge.Interface name
mismatch_of other = judge.NoMemory

-- the refusal of a circuit that is too large
abbrev pub refusal_of : InductError → JudgeError
refusal_of (refused.TooLarge side) = judge.TooLarge side
refusal_of refused.NoMemory = judge.NoMemory

-- the judgement of both nets, or the first refusal: the interface; A's size, B's size
abbrev pub IsJudgedBy : NetView → NetView → Result Judged JudgeError → Type 0
IsJudgedBy a b (Ok j) = IsJudged a b j.judgement j.text
IsJudgedBy a b (Err (judge.Interface name)) = first_mismatch (ports_of a) (ports_of b) ≡ Some name
IsJudgedBy a b (Err (judge.TooLarge side)) = (first_mismatch (ports_of a) (ports_of b) ≡ None) × IsRefusal a b (refused.TooLarge side)
IsJudgedBy a b (Err judge.NoMemory) = Unit {0}

-- what is found by it
abbrev pub judged_end : Result Judged JudgeError → Result Finding Stop
judged_end (Ok j) = Ok (finding.Judged j.judgement [] j.text)
judged_end (Err (judge.Interface name)) = Ok (finding.Refused (refusal.Interface name))
judged_end (Err (judge.TooLarge side)) = Ok (finding.Refused (refusal.TooLarge side))
judged_end (Err judge.NoMemory) = Err stop.NoMemory

-- the work on two files ends with a finding that is right, or by a read that failed, or at want of memory
abbrev pub SignalsFound : Held → (List ℕ → ℕ) → (List ℕ → ℕ) → List ℕ → List ℕ → Result Finding Stop → Type 0
SignalsFound held before now left right r = EndsBy (IsSignalsFound (held left) (held right)) (ReadFailed held before now (induct_paths left right)) r

-- How the work on B's file ends beside A's net: B isn't loaded, by what is held of it and whether a read of it failed; or both are judged.
abbrev pub EndsBeside : Option (List ℕ) → Type 0 → NetView → Result Finding Stop → Type 0
EndsBeside text rose a r =
    ((error : LoadError) × LoadFails text rose error × (r ≡ load_end file.B error))
    ⊎ ((b : NetView) × (judged : Result Judged JudgeError) × IfSome text (λ y. Loads y b) × IsJudgedBy a b judged × (r ≡ judged_end judged))
