-- Each subcommand in turn is the next of the command.
use Rattle.std.proofs.Common.{◌≡◌, ◌∙◌, ◌<◌, ◌+◌, ℕ, List, length, get_or, drop, ap, sym}
use Rattle.std.proofs.lemmas.List.{at_drop_more, at_drop_all}
use Rattle.clap.specs.Words.{App, app_of, with_subcommand}
use Rattle.command_line.specs.declared.command_words.command.Subcommand.{Subcommand}
use Rattle.command_line.specs.declared.command_words.command.TheConstants.{SUBCOMMANDS}
use Rattle.command_line.specs.command_words.Words.{with_all, app_of_subcommand}
use Rattle.command_line.proofs.command_words.command.sec_command.Goals as goal

next_added : (subs : List Subcommand) (i : ℕ) (d : Subcommand) (old new whole : App) → i < length subs → with_all old (drop i subs) ≡ whole
    → new ≡ with_subcommand old (app_of_subcommand (get_or subs i d)).top → with_all new (drop (i + 1) subs) ≡ whole
next_added subs i d old new whole lt so is =
    ap (λ (a : App). with_all a (drop (i + 1) subs)) is ∙ sym (at_drop_more (λ rest. with_all old rest) subs i d lt) ∙ so

pub loop-which-init : goal.loop-which-init
loop-which-init c = ap (λ (a : App). with_all a SUBCOMMANDS) c.top_command-command.ensures.app

pub loop-which-preserved : goal.loop-which-preserved
loop-which-preserved c = next_added SUBCOMMANDS c.loop-which.which-index _ _ _ _ c.loop-which-test.true c.loop-which.invariant c.in_ok-command.ensures

pub returns : goal.returns
returns c = sym (at_drop_all (λ rest. with_all (app_of c.loop-which.command) rest) SUBCOMMANDS c.loop-which.which-index c.loop-which-test.false) ∙ c.loop-which.invariant
