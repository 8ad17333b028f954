-- The command is `sec`, so the parser's own clauses speak of it.
use Rattle.std.proofs.Common.{◌≡◌, [], ◌∙◌, ap, subst, map, string_bytes, List, ℕ}
use Rattle.clap.specs.Words.{App, fault_of, is_simple, is_simple_and_free, subcommand_of}
use Rattle.command_line.proofs.Parses.{has_a_kind}
use Rattle.command_line.proofs.jobs.matches_of.Goals as goal

pub returns-in-Ok-clause-taken : goal.returns-in-Ok-clause-taken
returns-in-Ok-clause-taken c =
    let words : List (List ℕ) = map (λ w. string_bytes w) c.args.words.now in
    let no_fault = c.in-Ok.ensures.kinds (ap is_simple_and_free c.in_ok-command.ensures) in
    let found = c.in-Ok.ensures.matches (ap is_simple c.in_ok-command.ensures) in
    (subst (λ (a : App). fault_of a words ≡ []) c.in_ok-command.ensures no_fault, found.1 ∙ ap (λ (a : App). subcommand_of a words) c.in_ok-command.ensures)

pub returns : goal.returns
returns c =
    let words : List (List ℕ) = map (λ w. string_bytes w) c.args.words.now in
    let fails = c.in-Err.ensures.kinds (ap is_simple_and_free c.in_ok-command.ensures) in
    record {
      taken = tt {0};
      refused = λ _ h. has_a_kind _ c.in-Err.error fails (λ e. c.in_default.not-OutOfMemory (c.kind.ensures ∙ e)) (ap (λ (a : App). fault_of a words) c.in_ok-command.ensures ∙ h);
    }
