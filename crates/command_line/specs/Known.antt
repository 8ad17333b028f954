-- Words that `clap` takes, with a mode that is known and nothing that refuses `--reset`.
use Rattle.std.specs.Prelude.{◌≡◌, ◌||◌, ◌&&◌, not, Bool, true, false, Option, if◌then◌else◌, [], ◌∷◌, List, None, Some, is_some, codes, bytes_eq, IfSome}
use Rattle.circuit_theory.specs.declared.Mode.{Mode}
use Rattle.circuit_theory.specs.declared.Mode.TheVariants.{Plain, Event}
use Rattle.clap.specs.Words.{Row, Text, fault_of, first_of, subcommand_of}
use Rattle.command_line.specs.command_words.Command.{sec_app}
use Rattle.command_line.specs.Jobs.{job_of, mode_in, named_mode, form_in, is_set, stands_alone}
use Rattle.command_line.specs.declared.task.Task.TheVariants as task

-- the cycles aren't given, or `--reset` is
abbrev pub cycles_given : List Row → Option Text → Bool
cycles_given rows None = true
cycles_given rows (Some word) = is_set (codes "reset") rows

-- `--cycles` isn't given, or stands beside `--reset`
abbrev pub cycles_fit : List Row → Bool
cycles_fit rows = cycles_given rows (first_of (codes "cycles") rows)

-- `--after` isn't given, or stands beside `--reset`, and beside `--assume` with `--cycles`
abbrev pub after_fits : List Row → Bool
after_fits rows =
    not (is_some (first_of (codes "after") rows))
    || (is_set (codes "reset") rows && (not (is_some (first_of (codes "assume") rows)) || is_some (first_of (codes "cycles") rows)))

-- `--pair` isn't given, or stands beside none of `--settles`, `--assume`, `--cycles` and `--after`
abbrev pub pair_fits : List Row → Bool
pair_fits rows = not (is_some (first_of (codes "pair") rows)) || stands_alone (is_set (codes "settles") rows) (first_of (codes "assume") rows) (first_of (codes "cycles") rows) (first_of (codes "after") rows)

-- `--pairs` isn't given, or stands beside `--expose` and beside none of these nor `--pair`
abbrev pub pairs_fit : List Row → Bool
pairs_fit rows =
    not (is_some (first_of (codes "pairs") rows))
    || (is_set (codes "expose") rows && (stands_alone (is_set (codes "settles") rows) (first_of (codes "assume") rows) (first_of (codes "cycles") rows) (first_of (codes "after") rows) && not (is_some (first_of (codes "pair") rows))))

-- `--after` of `sim` isn't given, or stands beside `--reset`
abbrev pub run_fits : Bool → Option Text → Bool
run_fits reset after = not (is_some after) || reset

abbrev pub sim_fits : List Row → Bool
sim_fits rows = run_fits (is_set (codes "reset") rows) (first_of (codes "after") rows)

-- the mode of `replay` is one of the two, and `--reset` isn't given and neither is `--after`, or the mode is plain
abbrev pub replayed_fits : Bool → Option Text → Option Mode → Bool
replayed_fits reset after None = false
replayed_fits reset after (Some Plain) = run_fits reset after
replayed_fits reset after (Some Event) = not (reset || is_some after)

abbrev pub replay_fits : List Row → Bool
replay_fits rows = replayed_fits (is_set (codes "reset") rows) (first_of (codes "after") rows) (named_mode rows)

-- no assumption is given, or it stands beside `--signals`
abbrev pub ties_fit : Bool → Option Text → Bool
ties_fit signals assumed = not (is_some assumed) || signals

abbrev pub tied_fits : List Row → Bool
tied_fits rows = ties_fit (is_set (codes "signals") rows) (first_of (codes "assume") rows)

-- The mode among the subcommand's matches is one of the two, and `--reset` may stand beside it; `gen`, `lrat` and `induct` have none, and
-- `cert` has a form in its place. Nothing refuses the cycles of `check`, nor its stimulus, nor its one name, nor its pairs, nor the
-- stimulus behind whose rows `sim` or `replay` begins, nor the assumption of `induct`.
abbrev pub mode_fits : Text → List Row → Bool
mode_fits name rows =
    bytes_eq name (codes "gen") || (bytes_eq name (codes "lrat") || (if bytes_eq name (codes "induct") then tied_fits rows else if bytes_eq name (codes "cert") then is_some (form_in rows) else if bytes_eq name (codes "check") then is_some (mode_in rows) && (cycles_fit rows && (after_fits rows && (pair_fits rows && pairs_fit rows))) else if bytes_eq name (codes "sim") then is_some (mode_in rows) && sim_fits rows else if bytes_eq name (codes "replay") then replay_fits rows else is_some (mode_in rows)))

-- the mode of the subcommand that the words name is one of the two, and nothing refuses `--reset`
abbrev pub HasFitMode : List Text → Type 0
HasFitMode words = IfSome (subcommand_of sec_app words) (λ met. mode_fits met.0 met.1 ≡ true)

-- words that `clap`'s definition for the command takes, with a mode that fits, are a job
abbrev pub TakenWordsAreJob : Type 0
TakenWordsAreJob = (words : List Text) → fault_of sec_app words ≡ [] → HasFitMode words → is_some (job_of words) ≡ true

-- words that are taken, with a mode that fits
abbrev pub AreTaken : List Text → Type 0
AreTaken words = (fault_of sec_app words ≡ []) × HasFitMode words

-- words of each subcommand that are such
abbrev pub CheckIsTaken : Type 0
CheckIsTaken = AreTaken (codes "check" ∷ codes "a" ∷ codes "b" ∷ codes "--mode" ∷ codes "event" ∷ [])

abbrev pub GraphIsTaken : Type 0
GraphIsTaken = AreTaken (codes "graph" ∷ codes "a" ∷ [])

abbrev pub SimIsTaken : Type 0
SimIsTaken = AreTaken (codes "sim" ∷ codes "a" ∷ codes "s" ∷ codes "--power" ∷ codes "01" ∷ [])

abbrev pub ReplayIsTaken : Type 0
ReplayIsTaken = AreTaken (codes "replay" ∷ codes "a" ∷ codes "b" ∷ codes "s" ∷ [])

abbrev pub SettleIsTaken : Type 0
SettleIsTaken = AreTaken (codes "settle" ∷ codes "a" ∷ codes "b" ∷ codes "s" ∷ codes "--mode" ∷ codes "event" ∷ [])

abbrev pub GenIsTaken : Type 0
GenIsTaken = AreTaken (codes "gen" ∷ codes "7" ∷ codes "--conflicts" ∷ codes "0" ∷ [])

abbrev pub LratIsTaken : Type 0
LratIsTaken = AreTaken (codes "lrat" ∷ codes "f" ∷ codes "l" ∷ [])

abbrev pub CertIsTaken : Type 0
CertIsTaken = AreTaken (codes "cert" ∷ codes "a" ∷ codes "b" ∷ codes "y" ∷ codes "cnf" ∷ [])

abbrev pub InductIsTaken : Type 0
InductIsTaken = AreTaken (codes "induct" ∷ codes "a" ∷ codes "b" ∷ codes "--conflicts" ∷ codes "7" ∷ [])

-- words with `--signals`, and what they ask for
abbrev pub SignalsAreTaken : Type 0
SignalsAreTaken =
    AreTaken (codes "induct" ∷ codes "a" ∷ codes "b" ∷ codes "--signals" ∷ [])
    × (job_of (codes "induct" ∷ codes "--signals" ∷ codes "a" ∷ codes "b" ∷ codes "--conflicts" ∷ codes "7" ∷ []) ≡ Some (task.InductSignals (codes "a") (codes "b") 7))
    × AreTaken (codes "induct" ∷ codes "a" ∷ codes "b" ∷ codes "--signals" ∷ codes "--after" ∷ codes "s" ∷ [])
    × (job_of (codes "induct" ∷ codes "a" ∷ codes "b" ∷ codes "--signals" ∷ codes "--after" ∷ codes "s" ∷ []) ≡ Some (task.InductAfter (codes "a") (codes "b") (codes "s") true 20000))
    × AreTaken (codes "induct" ∷ codes "a" ∷ codes "b" ∷ codes "--signals" ∷ codes "--assume" ∷ codes "c" ∷ [])
    × (job_of (codes "induct" ∷ codes "a" ∷ codes "b" ∷ codes "--signals" ∷ codes "--assume" ∷ codes "c" ∷ []) ≡ Some (task.InductUnder (codes "a") (codes "b") (codes "c") 20000))
    × AreTaken (codes "induct" ∷ codes "a" ∷ codes "b" ∷ codes "--signals" ∷ codes "--after" ∷ codes "s" ∷ codes "--assume" ∷ codes "c" ∷ [])
    × (job_of (codes "induct" ∷ codes "a" ∷ codes "b" ∷ codes "--assume" ∷ codes "c" ∷ codes "--signals" ∷ codes "--after" ∷ codes "s" ∷ []) ≡ Some (task.InductAfterUnder (codes "a") (codes "b") (codes "c") (codes "s") 20000))

-- words with `--reset`, and what they ask for
abbrev pub ResetIsTaken : Type 0
ResetIsTaken =
    AreTaken (codes "check" ∷ codes "a" ∷ codes "b" ∷ codes "--reset" ∷ [])
    × (job_of (codes "sim" ∷ codes "a" ∷ codes "s" ∷ codes "--reset" ∷ []) ≡ Some (task.Sim (codes "a") (codes "s") Plain None true))

-- words with `--cycles`, and what they ask for
abbrev pub CyclesAreTaken : Type 0
CyclesAreTaken =
    AreTaken (codes "check" ∷ codes "a" ∷ codes "b" ∷ codes "--reset" ∷ codes "--cycles" ∷ codes "20" ∷ [])
    × (job_of (codes "check" ∷ codes "a" ∷ codes "b" ∷ codes "--reset" ∷ codes "--cycles" ∷ codes "20" ∷ []) ≡ Some (task.Search (codes "a") (codes "b") 20 20000))
    × (job_of (codes "check" ∷ codes "a" ∷ codes "b" ∷ codes "--reset" ∷ codes "--cycles" ∷ codes "20" ∷ codes "--assume" ∷ codes "c" ∷ []) ≡ Some (task.SearchUnder (codes "a") (codes "b") (codes "c") 20 20000))

-- words with `--assume`, and what they ask for
abbrev pub AssumedIsTaken : Type 0
AssumedIsTaken =
    AreTaken (codes "check" ∷ codes "a" ∷ codes "b" ∷ codes "--assume" ∷ codes "c" ∷ [])
    × (job_of (codes "check" ∷ codes "a" ∷ codes "b" ∷ codes "--reset" ∷ codes "--assume" ∷ codes "c" ∷ [])
    ≡ Some (task.Check (codes "a") (codes "b") (record { mode = Plain; expose = false; conflicts = 20000; reset = true }) (Some (codes "c"))))

-- words with `--settles`, and what they ask for
abbrev pub ReplaySettlesIsTaken : Type 0
ReplaySettlesIsTaken =
    AreTaken (codes "replay" ∷ codes "a" ∷ codes "b" ∷ codes "s" ∷ codes "--settles" ∷ [])
    × (job_of (codes "replay" ∷ codes "--settles" ∷ codes "a" ∷ codes "b" ∷ codes "s" ∷ []) ≡ Some (task.Replay (codes "a") (codes "b") (codes "s") Plain true))

-- words of `replay` with `--reset`, and what they ask for
abbrev pub ReplayResetIsTaken : Type 0
ReplayResetIsTaken =
    AreTaken (codes "replay" ∷ codes "a" ∷ codes "b" ∷ codes "s" ∷ codes "--reset" ∷ codes "--settles" ∷ [])
    × (job_of (codes "replay" ∷ codes "a" ∷ codes "b" ∷ codes "s" ∷ codes "--reset" ∷ codes "--settles" ∷ []) ≡ Some (task.ReplayReset (codes "a") (codes "b") (codes "s") true))
    × AreTaken (codes "replay" ∷ codes "a" ∷ codes "b" ∷ codes "s" ∷ codes "--reset" ∷ codes "--after" ∷ codes "r" ∷ [])
    × (job_of (codes "replay" ∷ codes "a" ∷ codes "b" ∷ codes "s" ∷ codes "--reset" ∷ codes "--after" ∷ codes "r" ∷ []) ≡ Some (task.ReplayAfter (codes "a") (codes "b") (codes "s") (codes "r") false))

-- words that aren't taken: `--settles` behind `settle`, which tells that alone
abbrev pub SettlesIsRefused : Type 0
SettlesIsRefused = job_of (codes "settle" ∷ codes "a" ∷ codes "b" ∷ codes "s" ∷ codes "--settles" ∷ []) ≡ None

-- words that aren't taken: `--assume` without a path, or twice
abbrev pub AssumedIsRefused : Type 0
AssumedIsRefused =
    (job_of (codes "check" ∷ codes "a" ∷ codes "b" ∷ codes "--assume" ∷ []) ≡ None)
    × (job_of (codes "check" ∷ codes "a" ∷ codes "b" ∷ codes "--assume" ∷ codes "c" ∷ codes "--assume" ∷ codes "c" ∷ []) ≡ None)

-- words that are taken and no job
abbrev pub AreNoJob : List Text → Type 0
AreNoJob words = (fault_of sec_app words ≡ []) × (job_of words ≡ None)

-- since their mode isn't known
abbrev pub OtherModeIsNoJob : Type 0
OtherModeIsNoJob = AreNoJob (codes "check" ∷ codes "a" ∷ codes "b" ∷ codes "--mode" ∷ codes "other" ∷ [])

-- since the form of a certificate isn't known
abbrev pub OtherFormIsNoJob : Type 0
OtherFormIsNoJob = AreNoJob (codes "cert" ∷ codes "a" ∷ codes "b" ∷ codes "y" ∷ codes "drat" ∷ [])

-- words with `--settles`, and what they ask for
abbrev pub CheckSettlesIsTaken : Type 0
CheckSettlesIsTaken =
    AreTaken (codes "check" ∷ codes "a" ∷ codes "b" ∷ codes "--settles" ∷ [])
    × (job_of (codes "check" ∷ codes "a" ∷ codes "b" ∷ codes "--mode" ∷ codes "event" ∷ codes "--settles" ∷ codes "--assume" ∷ codes "c" ∷ [])
    ≡ Some (task.CheckSettles (codes "a") (codes "b") (record { mode = Event; expose = false; conflicts = 20000; reset = false }) (Some (codes "c"))))

-- since `--reset` stands with `--expose`, with `--settles`, or with the mode `event`
abbrev pub ResetIsNoJob : Type 0
ResetIsNoJob =
    AreNoJob (codes "check" ∷ codes "a" ∷ codes "b" ∷ codes "--reset" ∷ codes "--expose" ∷ [])
    × AreNoJob (codes "check" ∷ codes "a" ∷ codes "b" ∷ codes "--reset" ∷ codes "--settles" ∷ [])
    × AreNoJob (codes "check" ∷ codes "a" ∷ codes "b" ∷ codes "--mode" ∷ codes "event" ∷ codes "--reset" ∷ [])
    × AreNoJob (codes "sim" ∷ codes "a" ∷ codes "s" ∷ codes "--mode" ∷ codes "event" ∷ codes "--reset" ∷ [])

-- since `--cycles` stands without `--reset`, also beside `--assume`, or `--reset` may not stand there
abbrev pub CyclesAreNoJob : Type 0
CyclesAreNoJob =
    AreNoJob (codes "check" ∷ codes "a" ∷ codes "b" ∷ codes "--cycles" ∷ codes "20" ∷ [])
    × AreNoJob (codes "check" ∷ codes "a" ∷ codes "b" ∷ codes "--cycles" ∷ codes "20" ∷ codes "--assume" ∷ codes "c" ∷ [])
    × AreNoJob (codes "check" ∷ codes "a" ∷ codes "b" ∷ codes "--reset" ∷ codes "--expose" ∷ codes "--cycles" ∷ codes "20" ∷ [])
    × (job_of (codes "check" ∷ codes "a" ∷ codes "b" ∷ codes "--reset" ∷ codes "--cycles" ∷ codes "1001" ∷ []) ≡ None)

-- words with `--after`, and what they ask for
abbrev pub AfterIsTaken : Type 0
AfterIsTaken =
    AreTaken (codes "check" ∷ codes "a" ∷ codes "b" ∷ codes "--reset" ∷ codes "--cycles" ∷ codes "20" ∷ codes "--after" ∷ codes "s" ∷ [])
    × (job_of (codes "check" ∷ codes "a" ∷ codes "b" ∷ codes "--reset" ∷ codes "--cycles" ∷ codes "20" ∷ codes "--after" ∷ codes "s" ∷ []) ≡ Some (task.After (codes "a") (codes "b") (codes "s") (Some 20) 20000))
    × (job_of (codes "check" ∷ codes "a" ∷ codes "b" ∷ codes "--reset" ∷ codes "--after" ∷ codes "s" ∷ []) ≡ Some (task.After (codes "a") (codes "b") (codes "s") None 20000))
    × (job_of (codes "induct" ∷ codes "a" ∷ codes "b" ∷ codes "--after" ∷ codes "s" ∷ []) ≡ Some (task.InductAfter (codes "a") (codes "b") (codes "s") false 20000))
    × (job_of (codes "sim" ∷ codes "a" ∷ codes "s" ∷ codes "--reset" ∷ codes "--after" ∷ codes "r" ∷ []) ≡ Some (task.SimAfter (codes "a") (codes "s") (codes "r") None))
    × (job_of (codes "check" ∷ codes "a" ∷ codes "b" ∷ codes "--reset" ∷ codes "--cycles" ∷ codes "20" ∷ codes "--after" ∷ codes "s" ∷ codes "--assume" ∷ codes "c" ∷ []) ≡ Some (task.AfterUnder (codes "a") (codes "b") (codes "c") (codes "s") 20 20000))

-- since `--after` stands without `--reset`, or with `--assume` and without `--cycles`, or behind `induct` without `--signals`
abbrev pub AfterIsNoJob : Type 0
AfterIsNoJob =
    AreNoJob (codes "check" ∷ codes "a" ∷ codes "b" ∷ codes "--after" ∷ codes "s" ∷ [])
    × AreNoJob (codes "check" ∷ codes "a" ∷ codes "b" ∷ codes "--cycles" ∷ codes "20" ∷ codes "--after" ∷ codes "s" ∷ [])
    × AreNoJob (codes "check" ∷ codes "a" ∷ codes "b" ∷ codes "--reset" ∷ codes "--after" ∷ codes "s" ∷ codes "--assume" ∷ codes "c" ∷ [])
    × AreNoJob (codes "sim" ∷ codes "a" ∷ codes "s" ∷ codes "--after" ∷ codes "r" ∷ [])
    × AreNoJob (codes "induct" ∷ codes "a" ∷ codes "b" ∷ codes "--after" ∷ codes "s" ∷ codes "--assume" ∷ codes "c" ∷ [])

-- since `--after` stands without `--reset`, or `--reset` with the mode `event`
abbrev pub ReplayResetIsNoJob : Type 0
ReplayResetIsNoJob =
    AreNoJob (codes "replay" ∷ codes "a" ∷ codes "b" ∷ codes "s" ∷ codes "--after" ∷ codes "r" ∷ [])
    × AreNoJob (codes "replay" ∷ codes "a" ∷ codes "b" ∷ codes "s" ∷ codes "--mode" ∷ codes "event" ∷ codes "--reset" ∷ [])

-- words with `--pair`, and what they ask for
abbrev pub PairIsTaken : Type 0
PairIsTaken =
    AreTaken (codes "check" ∷ codes "a" ∷ codes "b" ∷ codes "--expose" ∷ codes "--pair" ∷ codes "y" ∷ [])
    × (job_of (codes "check" ∷ codes "--pair" ∷ codes "y" ∷ codes "a" ∷ codes "b" ∷ codes "--reset" ∷ []) ≡ Some (task.CheckPair (codes "a") (codes "b") (codes "y") (record { mode = Plain; expose = false; conflicts = 20000; reset = true })))

-- since `--pair` stands with `--settles`, `--assume` or `--cycles`
abbrev pub PairIsNoJob : Type 0
PairIsNoJob =
    AreNoJob (codes "check" ∷ codes "a" ∷ codes "b" ∷ codes "--pair" ∷ codes "y" ∷ codes "--settles" ∷ [])
    × AreNoJob (codes "check" ∷ codes "a" ∷ codes "b" ∷ codes "--pair" ∷ codes "y" ∷ codes "--assume" ∷ codes "c" ∷ [])
    × AreNoJob (codes "check" ∷ codes "a" ∷ codes "b" ∷ codes "--pair" ∷ codes "y" ∷ codes "--reset" ∷ codes "--cycles" ∷ codes "20" ∷ [])

-- words with `--pairs`, and what they ask for
abbrev pub PairsAreTaken : Type 0
PairsAreTaken =
    AreTaken (codes "check" ∷ codes "a" ∷ codes "b" ∷ codes "--expose" ∷ codes "--pairs" ∷ codes "p" ∷ [])
    × (job_of (codes "check" ∷ codes "--pairs" ∷ codes "p" ∷ codes "a" ∷ codes "b" ∷ codes "--expose" ∷ []) ≡ Some (task.CheckRenamed (codes "a") (codes "b") (codes "p") (record { mode = Plain; expose = true; conflicts = 20000; reset = false })))

-- since `--pairs` stands without `--expose`, or with `--pair`, `--settles` or `--assume`
abbrev pub PairsAreNoJob : Type 0
PairsAreNoJob =
    AreNoJob (codes "check" ∷ codes "a" ∷ codes "b" ∷ codes "--pairs" ∷ codes "p" ∷ [])
    × AreNoJob (codes "check" ∷ codes "a" ∷ codes "b" ∷ codes "--expose" ∷ codes "--pairs" ∷ codes "p" ∷ codes "--pair" ∷ codes "y" ∷ [])
    × AreNoJob (codes "check" ∷ codes "a" ∷ codes "b" ∷ codes "--expose" ∷ codes "--pairs" ∷ codes "p" ∷ codes "--settles" ∷ [])
    × AreNoJob (codes "check" ∷ codes "a" ∷ codes "b" ∷ codes "--expose" ∷ codes "--pairs" ∷ codes "p" ∷ codes "--assume" ∷ codes "c" ∷ [])
