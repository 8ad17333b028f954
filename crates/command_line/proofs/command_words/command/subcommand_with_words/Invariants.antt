-- What the rest of the words add makes the subcommand whole.
use Rattle.std.proofs.Common.{◌≡◌, false, drop}
use Rattle.clap.specs.Words.{app_of}
use Rattle.clap.specs.declared.builder.command.Command.TheViews.{out-Command}
use Rattle.command_line.specs.command_words.Words.{with_words, app_of_subcommand}
use Rattle.command_line.proofs.command_words.command.subcommand_with_words.Given as goal

abbrev pub invariant-loop-word : goal.invariant-loop-word
invariant-loop-word l = (with_words (app_of l.command) (drop l.word-index l.words) ≡ app_of_subcommand l.fn.which) × ((out-Command l.command).has_globals ≡ false)
