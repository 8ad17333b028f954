-- The command line as a value of `clap`'s own terms.
use Rattle.std.specs.Prelude.{◌-◌, ◌^◌, true, [], ◌∷◌, Some, codes, fold}
use Rattle.sec_base.specs.declared.limits.TheConstants.{MAX_CONFLICTS}
use Rattle.clap.specs.Words.{App, Rule, Text, new_app, new_rule, with_rule, with_subcommand}
use Rattle.clap.specs.Simple.{new_shape}
use Rattle.clap.specs.declared.builder.action.ArgAction.TheVariants.{SetTrue}
use Rattle.clap.specs.declared.builder.value_parser.ValueParser.{ValueParser}
use Rattle.clap.specs.declared.builder.value_parser.ValueParser.TheVariants as parser

-- a word that must stand
abbrev pub place : Text → Rule
place id = record (new_rule id) { required = true }

-- an option with a value
abbrev pub option : Text → Rule
option id = record (new_rule id) { long = Some id }

-- an option with a value where it isn't given
abbrev pub option_with : Text → Text → Rule
option_with id value = record (new_rule id) { long = Some id; defaults = value ∷ [] }

abbrev pub flag : Text → Rule
flag id = record (new_rule id) { long = Some id; action = Some SetTrue }

-- the conflicts of one query, 0 to 200000, and 20000 where they aren't given
abbrev pub most_conflicts : ValueParser
most_conflicts = parser.Unsigned 0 MAX_CONFLICTS

abbrev pub conflicts : Rule
conflicts = record (option_with (codes "conflicts") (codes "20000")) { parser = Some most_conflicts }

-- the last cycle of a search, 0 to 1000
abbrev pub most_cycles : ValueParser
most_cycles = parser.Unsigned 0 1000

abbrev pub cycles : Rule
cycles = record (option (codes "cycles")) { parser = Some most_cycles }

-- a number of 64 bits
abbrev pub any_number : ValueParser
any_number = parser.Unsigned 0 (2 ^ 64 - 1)

abbrev pub number : Rule
number = record (place (codes "n")) { parser = Some any_number }

abbrev pub mode : Rule
mode = option_with (codes "mode") (codes "plain")

abbrev pub check_app : App
check_app = fold with_rule (new_app (codes "check")) (place (codes "a") ∷ place (codes "b") ∷ mode ∷ flag (codes "expose") ∷ conflicts ∷ flag (codes "reset") ∷ option (codes "assume") ∷ flag (codes "settles") ∷ cycles ∷ option (codes "after") ∷ option (codes "pair") ∷ option (codes "pairs") ∷ [])

abbrev pub graph_app : App
graph_app = fold with_rule (new_app (codes "graph")) (place (codes "a") ∷ mode ∷ [])

abbrev pub sim_app : App
sim_app = fold with_rule (new_app (codes "sim")) (place (codes "a") ∷ place (codes "s") ∷ mode ∷ option (codes "power") ∷ flag (codes "reset") ∷ option (codes "after") ∷ [])

abbrev pub replay_app : App
replay_app = fold with_rule (new_app (codes "replay")) (place (codes "a") ∷ place (codes "b") ∷ place (codes "s") ∷ mode ∷ flag (codes "settles") ∷ flag (codes "reset") ∷ option (codes "after") ∷ [])

abbrev pub settle_app : App
settle_app = fold with_rule (new_app (codes "settle")) (place (codes "a") ∷ place (codes "b") ∷ place (codes "s") ∷ mode ∷ [])

abbrev pub gen_app : App
gen_app = fold with_rule (new_app (codes "gen")) (number ∷ flag (codes "regroup") ∷ conflicts ∷ [])

abbrev pub lrat_app : App
lrat_app = fold with_rule (new_app (codes "lrat")) (place (codes "f") ∷ place (codes "l") ∷ [])

abbrev pub cert_app : App
cert_app = fold with_rule (new_app (codes "cert")) (place (codes "a") ∷ place (codes "b") ∷ place (codes "pair") ∷ place (codes "form") ∷ conflicts ∷ [])

abbrev pub induct_app : App
induct_app = fold with_rule (new_app (codes "induct")) (place (codes "a") ∷ place (codes "b") ∷ conflicts ∷ flag (codes "signals") ∷ option (codes "after") ∷ option (codes "assume") ∷ [])

-- `sec` with one of its subcommands
abbrev pub top_app : App
top_app = record { top = record (new_shape (codes "sec")) { no_binary_name = true; subcommand_required = true }; subs = [] }

abbrev pub sec_app : App
sec_app = fold with_subcommand top_app (check_app.top ∷ graph_app.top ∷ sim_app.top ∷ replay_app.top ∷ settle_app.top ∷ gen_app.top ∷ lrat_app.top ∷ cert_app.top ∷ induct_app.top ∷ [])
