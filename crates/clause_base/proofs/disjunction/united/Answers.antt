use Rattle.std.proofs.Common.{◌≡◌, List, None, Contains, subst, sym}
use Rattle.clause_base.specs.Literals.{Literal, negation}
use Rattle.clause_base.specs.Clauses.{IsClause}
use Rattle.clause_base.specs.Merging.{IsUnion, IsMergeAnswer}
use Rattle.clause_base.specs.declared.merge.Merged.{Merged}
use Rattle.clause_base.specs.declared.merge.Merged.TheVariants.{Union, Clash}
use Rattle.clause_base.proofs.disjunction.united.Goals as goal

-- what a merge comes to, by its answer
answered : (a b out : List Literal) (m n : Merged) → m ≡ n → IsMergeAnswer a b None m out → IsMergeAnswer a b None n out
answered a b out m n is h = subst (λ (k : Merged). IsMergeAnswer a b None k out) is h

pub merge-requires-clause-left : goal.merge-requires-clause-left
merge-requires-clause-left c = subst IsClause (sym c.as_slice.ensures.value) c.as_slice.ensures.clause

pub merge-requires-clause-right : goal.merge-requires-clause-right
merge-requires-clause-right c = subst IsClause (sym c.as_slice-2.ensures.value) c.as_slice-2.ensures.clause

pub of_ordered-requires : goal.of_ordered-requires
of_ordered-requires c =
    let union : IsUnion c.as_slice.result.now c.as_slice-2.result.now None c.merge.new.out.items = answered c.as_slice.result.now c.as_slice-2.result.now c.merge.new.out.items c.in_ok-merge.field-0 Union c.in-Union.is c.in_ok-merge.ensures in
    union.ordered

pub returns-in-Union : goal.returns-in-Union
returns-in-Union c =
    let union : IsUnion c.as_slice.result.now c.as_slice-2.result.now None c.merge.new.out.items = answered c.as_slice.result.now c.as_slice-2.result.now c.merge.new.out.items c.in_ok-merge.field-0 Union c.in-Union.is c.in_ok-merge.ensures in
    subst (IsUnion c.args.left.now c.args.right.now None) (sym c.of_ordered.ensures)
    (subst (λ (a : List Literal). IsUnion a c.args.right.now None c.merge.new.out.items) c.as_slice.ensures.value (subst (λ (b : List Literal). IsUnion c.as_slice.result.now b None c.merge.new.out.items) c.as_slice-2.ensures.value union))

pub returns-in-Clash : goal.returns-in-Clash
returns-in-Clash c =
    let clash = answered c.as_slice.result.now c.as_slice-2.result.now c.merge.new.out.items c.in_ok-merge.field-0 Clash c.in-Clash.is c.in_ok-merge.ensures in
    (clash.0, subst (λ (a : List Literal). Contains a clash.0) c.as_slice.ensures.value clash.2, subst (λ (b : List Literal). Contains b (negation clash.0)) c.as_slice-2.ensures.value clash.3)
