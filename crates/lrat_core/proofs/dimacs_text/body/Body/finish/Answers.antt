use Rattle.std.proofs.Common.{List, [], Ok, Err, sym, ◌∙◌, ap, subst}
use Rattle.proof_check.specs.Literals.{Literal}
use Rattle.text_numbers.specs.declared.kinds.TextError.{TextError}
use Rattle.text_numbers.specs.Answers.{IsGiven}
use Rattle.lrat_core.specs.dimacs_text.Entries.{clauses_from}
use Rattle.lrat_core.specs.dimacs_text.Dimacs.{end_of}
use Rattle.lrat_core.proofs.dimacs_text.Putting.{wrong_count, still_open, all_there}
use Rattle.lrat_core.proofs.dimacs_text.body.Body.finish.Goals as goal

pub returns-then-self-clause-formula : goal.returns-then-self-clause-formula
returns-then-self-clause-formula c =
    let s = c.args.self in
    subst (λ (e : TextError). IsGiven (end_of s.header s.entries.items) (Err e)) (sym c.without_clauses.ensures) (wrong_count s.header s.entries.items (λ e. c.if-self.true (s.counted ∙ e)))

pub returns-then-self-2-clause-formula : goal.returns-then-self-2-clause-formula
returns-then-self-2-clause-formula c =
    let s = c.args.self in
    subst (λ (e : TextError). IsGiven (end_of s.header s.entries.items) (Err e)) (sym c.without_clauses-then-self-2.ensures) (still_open s.header s.entries.items (sym s.last ∙ c.if-self-2.true))

pub returns-clause-formula : goal.returns-clause-formula
returns-clause-formula c =
    let s = c.args.self in
    all_there s.header s.entries.items (sym s.counted ∙ c.if-self.false) (sym s.last ∙ c.if-self-2.false)
    ∙ ap (λ (cs : List (List Literal)). Ok (record { variables = s.header.variables; clauses = cs })) (sym (c.in_ok-clauses.ensures ∙ ap (clauses_from []) c.as_slice.ensures.value))
    ∙ ap Ok (sym c.new.ensures)
