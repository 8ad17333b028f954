-- What each word behind a subcommand's name is to `clap`.
use Rattle.std.specs.Prelude.{List, fold}
use Rattle.clap.specs.Words.{App, Rule, with_rule, with_subcommand}
use Rattle.command_line.specs.declared.command_words.command.Word.{Word}
use Rattle.command_line.specs.declared.command_words.command.Word.TheVariants as word
use Rattle.command_line.specs.declared.command_words.command.Subcommand.{Subcommand}
use Rattle.command_line.specs.declared.command_words.command.Subcommand.TheVariants as subcommand
use Rattle.command_line.specs.command_words.Command.{place, option, option_with, flag, conflicts, cycles, number, check_app, graph_app, sim_app, replay_app, settle_app, gen_app, lrat_app, cert_app, induct_app}

abbrev pub word_rule : Word → Rule
word_rule (word.Place id) = place id.now
word_rule (word.Option id) = option id.now
word_rule (word.OptionWith id value) = option_with id.now value.now
word_rule (word.Flag id) = flag id.now
word_rule word.Conflicts = conflicts
word_rule word.Cycles = cycles
word_rule word.Number = number

-- the command with each of these words more
abbrev pub with_words : App → List Word → App
with_words app words = fold (λ above word. with_rule above (word_rule word)) app words

abbrev pub app_of_subcommand : Subcommand → App
app_of_subcommand subcommand.Check = check_app
app_of_subcommand subcommand.Graph = graph_app
app_of_subcommand subcommand.Sim = sim_app
app_of_subcommand subcommand.Replay = replay_app
app_of_subcommand subcommand.Settle = settle_app
app_of_subcommand subcommand.Gen = gen_app
app_of_subcommand subcommand.Lrat = lrat_app
app_of_subcommand subcommand.Cert = cert_app
app_of_subcommand subcommand.Induct = induct_app

-- the command with each of these subcommands more
abbrev pub with_all : App → List Subcommand → App
with_all app subs = fold (λ above which. with_subcommand above (app_of_subcommand which).top) app subs
