use Rattle.std.proofs.Common.{◌∙◌, List, length, get_or, ap, subst, arith}
use Rattle.std.specs.List.{All}
use Rattle.std.proofs.lemmas.List.{take_all}
use Rattle.std.proofs.lemmas.List.Elements.{All-nil}
use Rattle.proof_check.specs.Literals.{Literal}
use Rattle.proof_check.specs.Clauses.{IsClause}
use Rattle.lrat_core.proofs.certificate_writer.Trails.{one_more_clause}
use Rattle.lrat_core.proofs.certificate_writer.refutation.look_at_all.Goals as goal

pub loop-clause-init : goal.loop-clause-init
loop-clause-init c = All-nil IsClause

pub loop-clause-preserved : goal.loop-clause-preserved
loop-clause-preserved c =
    let cs = c.args.clauses.now in
    let i = c.loop-clause.clause-index in
    let same = c.as_slice-clause-items.ensures in
    one_more_clause cs i c.clause-item.result (omega (arith, c.loop-clause-test.true, ap (λ (xs : List (List Literal)). length xs) same)) (c.clause-item.is ∙ ap (λ (xs : List (List Literal)). get_or xs i c.clause-item.result) same) c.loop-clause.invariant
    c.as_slice-literals.ensures.clause

pub returns : goal.returns
returns c =
    let same = c.as_slice-clause-items.ensures in
    subst (All IsClause) (take_all c.loop-clause.clause-index c.args.clauses.now (omega (arith, c.loop-clause-test.false, ap (λ (xs : List (List Literal)). length xs) same))) c.loop-clause.invariant
