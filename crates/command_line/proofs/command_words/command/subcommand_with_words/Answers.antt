-- Each word in turn is the next rule of the command.
use Rattle.std.proofs.Common.{◌≡◌, ◌∙◌, ◌<◌, ◌+◌, ℕ, List, length, get_or, drop, ap, sym}
use Rattle.std.proofs.lemmas.List.{at_drop_more, at_drop_all}
use Rattle.clap.specs.Words.{App, app_of, with_rule}
use Rattle.command_line.specs.declared.command_words.command.Word.{Word}
use Rattle.command_line.specs.command_words.Words.{word_rule, with_words}
use Rattle.command_line.proofs.command_words.command.subcommand_with_words.Goals as goal

next_added : (words : List Word) (i : ℕ) (d : Word) (old new whole : App) → i < length words → with_words old (drop i words) ≡ whole
    → new ≡ with_rule old (word_rule (get_or words i d)) → with_words new (drop (i + 1) words) ≡ whole
next_added words i d old new whole lt so is =
    ap (λ (a : App). with_words a (drop (i + 1) words)) is ∙ sym (at_drop_more (λ rest. with_words old rest) words i d lt) ∙ so

pub loop-word-init : goal.loop-word-init
loop-word-init c = (ap (λ (a : App). with_words a c.words_of.result.1.now) c.new-command.ensures.app ∙ c.words_of.ensures, c.new-command.ensures.local)

pub loop-word-preserved : goal.loop-word-preserved
loop-word-preserved c = (next_added _ c.loop-word.word-index _ _ _ _ c.loop-word-test.true c.loop-word.invariant.0 c.in_ok-command.ensures.0, c.in_ok-command.ensures.1)

pub returns : goal.returns
returns c = (sym (at_drop_all (λ rest. with_words (app_of c.loop-word.command) rest) _ c.loop-word.word-index c.loop-word-test.false) ∙ c.loop-word.invariant.0, c.loop-word.invariant.1)
