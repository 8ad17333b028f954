-- The job of a command line.
use Rattle.std.specs.Prelude.{ℕ, ◌==◌, ◌&&◌, ◌||◌, not, Bool, true, false, if◌then◌else◌, List, length, Option, Some, None, is_some, codes, bytes_eq, option_and_then, option_map}
use Rattle.std.specs.Str.Parse.{digits_value, without_leading_plus}
use Rattle.circuit_theory.specs.declared.Mode.{Mode}
use Rattle.circuit_theory.specs.declared.Mode.TheVariants.{Plain, Event}
use Rattle.clap.specs.Words.{Row, Text, fault_of, first_of, subcommand_of}
use Rattle.clap.specs.ValueTests.{accepts}
use Rattle.clap.specs.declared.builder.value_parser.ValueParser.{ValueParser}
use Rattle.command_line.specs.command_words.Command.{sec_app, most_conflicts, most_cycles, any_number}
use Rattle.sec_base.specs.declared.settings.Settings.{Settings}
use Rattle.command_line.specs.declared.task.Task.{Task}
use Rattle.command_line.specs.declared.task.Task.TheVariants as task

-- the mode of the word
abbrev pub mode_of : Text → Option Mode
mode_of word = if bytes_eq word (codes "plain") then Some Plain else if bytes_eq word (codes "event") then Some Event else None

-- the number that the word spells, where the parser takes it
abbrev pub number_of : ValueParser → Text → Option ℕ
number_of parser word = if accepts false parser word then Some (digits_value 10 (without_leading_plus word)) else None

-- the flag is given
abbrev pub is_set : Text → List Row → Bool
is_set id rows = given (first_of id rows)
  where
    given : Option Text → Bool
    given None = false
    given (Some value) = bytes_eq value (codes "true")

-- `--reset` can't stand beside the mode `event`, nor beside `--expose` or `--settles`
abbrev pub refuses_reset : List Row → Mode → Bool
refuses_reset rows Plain = is_set (codes "expose") rows || is_set (codes "settles") rows
refuses_reset rows Event = true

-- the mode that the words name
abbrev pub named_mode : List Row → Option Mode
named_mode rows = option_and_then mode_of (first_of (codes "mode") rows)

-- the same, unless `--reset` stands beside what refuses it
abbrev pub mode_in : List Row → Option Mode
mode_in rows = option_and_then (λ mode. if is_set (codes "reset") rows && refuses_reset rows mode then None else Some mode) (named_mode rows)

abbrev pub conflicts_in : List Row → Option ℕ
conflicts_in rows = option_and_then (number_of most_conflicts) (first_of (codes "conflicts") rows)

-- the word that must stand under the id, and what is made of it
abbrev pub with_word : {X : Type 0} → Text → List Row → (Text → Option X) → Option X
with_word id rows make = option_and_then make (first_of id rows)

abbrev pub settings_in : List Row → Option Settings
settings_in rows =
    option_and_then (λ mode. option_map (λ conflicts. record { mode = mode; expose = is_set (codes "expose") rows; conflicts = conflicts; reset = is_set (codes "reset") rows }) (conflicts_in rows)) (mode_in rows)

-- the comparison of these files, with `--settles` where that stands
abbrev pub compared_in : Bool → Text → Text → Settings → Option Text → Task
compared_in false a b settings assumed = task.Check a b settings assumed
compared_in true a b settings assumed = task.CheckSettles a b settings assumed

-- the search of these files for a difference up to a cycle, under an assumption where one is named
abbrev pub searched_in : Text → Text → Option Text → ℕ → ℕ → Task
searched_in a b None cycles conflicts = task.Search a b cycles conflicts
searched_in a b (Some c) cycles conflicts = task.SearchUnder a b c cycles conflicts

-- the search up to the cycle that the word spells; it stands only beside `--reset`
abbrev pub search_in : Text → Text → Settings → Option Text → Text → Option Task
search_in a b settings assumed word = if settings.reset then option_map (λ cycles. searched_in a b assumed cycles settings.conflicts) (number_of most_cycles word) else None

-- the check of two circuits, or where a last cycle is named the search
abbrev pub checked_in : Bool → Text → Text → Settings → Option Text → Option Text → Option Task
checked_in settles a b settings assumed None = Some (compared_in settles a b settings assumed)
checked_in settles a b settings assumed (Some word) = search_in a b settings assumed word

-- the last cycle that the word spells; without a word none is named
abbrev pub last_in : Option Text → Option (Option ℕ)
last_in None = Some None
last_in (Some word) = option_map (λ cycles. Some cycles) (number_of most_cycles word)

-- the search behind the rows of a stimulus, up to the cycle that the word spells, or without one in all cycles; under an assumption it wants
-- such a word. It stands only beside `--reset`.
abbrev pub after_in : Text → Text → Text → Settings → Option Text → Option Text → Option Task
after_in a b s settings (Some c) None = None
after_in a b s settings (Some c) (Some word) = if settings.reset then option_map (λ last. task.AfterUnder a b c s last settings.conflicts) (number_of most_cycles word) else None
after_in a b s settings None cycles = if settings.reset then option_map (λ last. task.After a b s last settings.conflicts) (last_in cycles) else None

-- the same where a stimulus is named
abbrev pub begun_in : Bool → Text → Text → Settings → Option Text → Option Text → Option Text → Option Task
begun_in settles a b settings assumed cycles None = checked_in settles a b settings assumed cycles
begun_in settles a b settings assumed cycles (Some s) = after_in a b s settings assumed cycles

-- none of `--settles`, `--assume`, `--cycles` and `--after` is given
abbrev pub stands_alone : Bool → Option Text → Option Text → Option Text → Bool
stands_alone settles assumed cycles after = not (settles || (is_some assumed || (is_some cycles || is_some after)))

-- the comparison of the outputs of one name, where one is named; it stands beside none of these
abbrev pub paired_in : Bool → Text → Text → Settings → Option Text → Option Text → Option Text → Option Text → Option Task
paired_in settles a b settings assumed cycles after None = begun_in settles a b settings assumed cycles after
paired_in settles a b settings assumed cycles after (Some pair) = if stands_alone settles assumed cycles after then Some (task.CheckPair a b pair settings) else None

-- the comparison whose latches a file pairs, where one is named; it stands beside `--expose`, and beside neither these nor `--pair`
abbrev pub renamed_in : Bool → Text → Text → Settings → Option Text → Option Text → Option Text → Option Text → Option Text → Option Task
renamed_in settles a b settings assumed cycles after pair None = paired_in settles a b settings assumed cycles after pair
renamed_in settles a b settings assumed cycles after pair (Some pairs) = if settings.expose && (stands_alone settles assumed cycles after && not (is_some pair)) then Some (task.CheckRenamed a b pairs settings) else None

abbrev pub check_in : List Row → Option Task
check_in rows =
    with_word (codes "a") rows (λ a. with_word (codes "b") rows (λ b. option_and_then (λ settings. renamed_in (is_set (codes "settles") rows) a b settings (first_of (codes "assume") rows) (first_of (codes "cycles") rows) (first_of (codes "after") rows) (first_of (codes "pair") rows) (first_of (codes "pairs") rows)) (settings_in rows)))

abbrev pub graph_in : List Row → Option Task
graph_in rows = with_word (codes "a") rows (λ a. option_map (λ mode. task.Graph a mode) (mode_in rows))

-- the run of a circuit over a stimulus, or behind the rows of another one where that is named, which stands only beside `--reset`
abbrev pub run_in : Text → Text → Mode → Option Text → Bool → Option Text → Option Task
run_in a s mode power reset None = Some (task.Sim a s mode power reset)
run_in a s mode power true (Some rows) = Some (task.SimAfter a s rows power)
run_in a s mode power false (Some rows) = None

abbrev pub sim_in : List Row → Option Task
sim_in rows =
    with_word (codes "a") rows (λ a. with_word (codes "s") rows (λ s.
    option_and_then (λ mode. run_in a s mode (first_of (codes "power") rows) (is_set (codes "reset") rows) (first_of (codes "after") rows)) (mode_in rows)))

-- the replay of a stimulus on two circuits; with `--reset`, which doesn't stand beside the mode `event`, from their initial values, or behind
-- the rows of another stimulus where that is named, which stands only beside `--reset`
abbrev pub replayed_in : Text → Text → Text → Bool → Bool → Option Text → Mode → Option Task
replayed_in a b s settles false None mode = Some (task.Replay a b s mode settles)
replayed_in a b s settles false (Some rows) mode = None
replayed_in a b s settles true None Plain = Some (task.ReplayReset a b s settles)
replayed_in a b s settles true (Some rows) Plain = Some (task.ReplayAfter a b s rows settles)
replayed_in a b s settles true after Event = None

abbrev pub replay_in : List Row → Option Task
replay_in rows =
    with_word (codes "a") rows (λ a. with_word (codes "b") rows (λ b. with_word (codes "s") rows (λ s.
    option_and_then (replayed_in a b s (is_set (codes "settles") rows) (is_set (codes "reset") rows) (first_of (codes "after") rows)) (named_mode rows))))

abbrev pub settle_in : List Row → Option Task
settle_in rows =
    with_word (codes "a") rows (λ a. with_word (codes "b") rows (λ b. with_word (codes "s") rows (λ s. option_map (λ mode. task.Settle a b s mode) (mode_in rows))))

abbrev pub gen_in : List Row → Option Task
gen_in rows =
    with_word (codes "n") rows (λ n. option_and_then (λ seed. option_map (λ conflicts. task.Gen seed (is_set (codes "regroup") rows) conflicts) (conflicts_in rows)) (number_of any_number n))

abbrev pub lrat_in : List Row → Option Task
lrat_in rows = with_word (codes "f") rows (λ f. option_map (λ l. task.Lrat f l) (first_of (codes "l") rows))

-- a refutation is wanted, and not the clauses
abbrev pub form_of : Text → Option Bool
form_of word = if bytes_eq word (codes "lrat") then Some true else if bytes_eq word (codes "cnf") then Some false else None

-- the form of a certificate that the words name
abbrev pub form_in : List Row → Option Bool
form_in rows = option_and_then form_of (first_of (codes "form") rows)

abbrev pub cert_in : List Row → Option Task
cert_in rows =
    with_word (codes "a") rows (λ a. with_word (codes "b") rows (λ b. with_word (codes "pair") rows (λ pair.
    option_and_then (λ lrat. option_map (λ conflicts. task.Cert a b pair lrat conflicts) (conflicts_in rows)) (form_in rows))))

-- the induction over both circuits, by ties of signals with `--signals`, and else by blocks of latches; behind the rows of a stimulus where
-- one is named
abbrev pub inducted_in : Bool → Text → Text → ℕ → Option Text → Task
inducted_in false a b conflicts None = task.Induct a b conflicts
inducted_in true a b conflicts None = task.InductSignals a b conflicts
inducted_in signals a b conflicts (Some s) = task.InductAfter a b s signals conflicts

-- the same under an assumption where one is named, which stands only beside `--signals`
abbrev pub tied_in : Bool → Text → Text → ℕ → Option Text → Option Text → Option Task
tied_in signals a b conflicts None after = Some (inducted_in signals a b conflicts after)
tied_in false a b conflicts (Some c) after = None
tied_in true a b conflicts (Some c) None = Some (task.InductUnder a b c conflicts)
tied_in true a b conflicts (Some c) (Some s) = Some (task.InductAfterUnder a b c s conflicts)

abbrev pub induct_in : List Row → Option Task
induct_in rows =
    with_word (codes "a") rows (λ a. with_word (codes "b") rows (λ b. option_and_then (λ conflicts. tied_in (is_set (codes "signals") rows) a b conflicts (first_of (codes "assume") rows) (first_of (codes "after") rows)) (conflicts_in rows)))

-- the task of a subcommand's matches
abbrev pub task_in : Text → List Row → Option Task
task_in name rows =
    if bytes_eq name (codes "check") then check_in rows
    else if bytes_eq name (codes "graph") then graph_in rows
    else if bytes_eq name (codes "sim") then sim_in rows
    else if bytes_eq name (codes "replay") then replay_in rows
    else if bytes_eq name (codes "settle") then settle_in rows
    else if bytes_eq name (codes "gen") then gen_in rows
    else if bytes_eq name (codes "lrat") then lrat_in rows
    else if bytes_eq name (codes "cert") then cert_in rows
    else if bytes_eq name (codes "induct") then induct_in rows
    else None

-- The job of the words: where `clap`'s own definition for the command takes them, the mode or the form is known, and nothing refuses
-- `--reset`, `--cycles`, `--pair` or `--pairs`.
abbrev pub job_of : List Text → Option Task
job_of words = if length (fault_of sec_app words) == 0 then option_and_then (λ met. task_in met.0 met.1) (subcommand_of sec_app words) else None
