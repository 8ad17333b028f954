use Rattle.std.proofs.Common.{◌∙◌, List, length, get_or, sym, ap, subst, arith}
use Rattle.proof_check.specs.Literals.{Literal}
use Rattle.clause_watch.specs.Trails.{FreeBefore}
use Rattle.lrat_core.proofs.certificate_writer.Trails.{clause_free}
use Rattle.lrat_core.proofs.certificate_writer.refutation.falsify.Goals as goal

pub push-requires-clause-free : goal.push-requires-clause-free
push-requires-clause-free c =
    let t = c.loop-literal.trail.entries in
    let i = c.loop-literal.literal-index in
    let x = c.literal-item.result in
    let same = c.as_slice-literal-items.ensures.value in
    subst (FreeBefore t (length t)) (sym c.negation.ensures)
    (clause_free t c.args.clause.now i x c.as_slice-literal-items.ensures.clause (omega (arith, c.loop-literal-test.true, ap (λ (xs : List Literal). length xs) same)) (c.literal-item.is ∙ ap (λ (xs : List Literal). get_or xs i x) same) c.loop-literal.invariant.1)
