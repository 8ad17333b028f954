use Rattle.std.proofs.Common.{◌≡◌, ◌∙◌, ◌<◌, ◌≤◌, List, length, get_or, ap, subst}
use Rattle.proof_check.specs.Literals.{Literal}
use Rattle.lrat_core.specs.dimacs_text.dimacs_writer.Written.{clause_text, header_text}
use Rattle.lrat_core.proofs.Loops.{pieces_more, pieces_whole}
use Rattle.lrat_core.proofs.dimacs_text.dimacs_writer.writer.write_clauses.Goals as goal

pub loop-clause-preserved : goal.loop-clause-preserved
loop-clause-preserved c =
    let clauses = c.args.clauses.now in
    let i = c.loop-clause.clause-index in
    let x = c.clause-item.result in
    let reads : x ≡ get_or clauses i x = c.clause-item.is ∙ ap (λ (cs : List (List Literal)). get_or cs i x) c.as_slice-clause-items.ensures in
    let within : i < length clauses = subst (λ (cs : List (List Literal)). i < length cs) c.as_slice-clause-items.ensures c.loop-clause-test.true in
    pieces_more clause_text (header_text c.args.variables (length clauses)) c.loop-clause.text.items c.put_clause.new.text.items clauses i x c.loop-clause.invariant c.in_ok-put_clause.ensures reads within

pub returns : goal.returns
returns c =
    let clauses = c.args.clauses.now in
    let i = c.loop-clause.clause-index in
    let past : length clauses ≤ i = subst (λ (cs : List (List Literal)). length cs ≤ i) c.as_slice-clause-items.ensures c.loop-clause-test.false in
    c.from_vec.ensures ∙ pieces_whole clause_text (header_text c.args.variables (length clauses)) c.loop-clause.text.items clauses i c.loop-clause.invariant past
