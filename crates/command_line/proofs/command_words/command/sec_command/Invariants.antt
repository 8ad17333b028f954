-- What the rest of the subcommands add makes the command whole.
use Rattle.std.proofs.Common.{◌≡◌, drop}
use Rattle.clap.specs.Words.{app_of}
use Rattle.command_line.specs.command_words.Command.{sec_app}
use Rattle.command_line.specs.command_words.Words.{with_all}
use Rattle.command_line.proofs.command_words.command.sec_command.Given as goal

abbrev pub invariant-loop-which : goal.invariant-loop-which
invariant-loop-which l = with_all (app_of l.command) (drop l.which-index l.which-items) ≡ sec_app
