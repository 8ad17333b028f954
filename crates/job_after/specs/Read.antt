-- What is read of the files of two circuits and of a stimulus.
use Rattle.std.specs.Prelude.{ℕ, ◌<◌, ◌^◌, List, length, IfSome}
use Rattle.flat_net.specs.Comparable.{IsComparable}
use Rattle.job_base.specs.sec_files.Loading.{Loads}
use Rattle.job_base.specs.sec_files.Stimuli.{IsStimulus}
use Rattle.job_base.specs.Ends.{EndsBy}
use Rattle.job_base.specs.sec_files.job_files.Reading.{Held, ReadFailed}
use Rattle.job_circuit.specs.job_replay.Replays.{replay_paths}
use Rattle.job_after.specs.declared.reading.ReadFiles.{ReadFiles}
use Rattle.job_after.specs.declared.reading.ReadFiles.TheVariants as read
use Rattle.job_after.specs.Answer.{IsUnread}

-- both circuits and the stimulus, by what is held of them; or how the work ends where one of them isn't loaded
abbrev pub IsRead : Held → (List ℕ → ℕ) → (List ℕ → ℕ) → List ℕ → List ℕ → List ℕ → ReadFiles → Type 0
IsRead held before now left right stimulus (read.Whole a b s) =
    IfSome (held left) (λ x. Loads x a) × IfSome (held right) (λ y. Loads y b) × IfSome (held stimulus) (λ z. IsStimulus z s.names s.rows) × IsComparable a × IsComparable b × (length s.rows < 2 ^ 32)
IsRead held before now left right stimulus (read.Ended end) = EndsBy (IsUnread (held left) (held right) (held stimulus)) (ReadFailed held before now (replay_paths left right stimulus)) end
