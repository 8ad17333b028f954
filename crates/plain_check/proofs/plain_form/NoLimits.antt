-- Pairs of one tree don't meet the limit.
use Rattle.std.proofs.Common.{ℕ, Bool, List, Option, Some, None, subst}
use Rattle.circuit_theory.specs.Circuit.{Circuit}
use Rattle.circuit_theory.proofs.Lists.{of_at}
use Rattle.sec_base.specs.declared.basics.PairAnswer.{PairAnswer}
use Rattle.sec_base.specs.declared.basics.PairAnswer.TheVariants as answer
use Rattle.pair_decide.specs.declared.query.Proof.{Proof}
use Rattle.obligations.specs.declared.outcome.verdict.Verdict.{Verdict}
use Rattle.swept_queries.proofs.Listed.{zip_left}
use Rattle.plain_check.specs.plain_form.Laws.{HaveOneTree, OneTreeHasNoLimit}
use Rattle.plain_asked.specs.outcome_fits.Outcome.{AnswerFits, PairFits, VerdictFits}

-- a pair of one tree doesn't meet it
not_at_limit : (a b : Circuit ℕ) (left right : List ℕ) (cut : Bool) (conflicts p q : ℕ) → HaveOneTree a b left right p q → (proof : Option Proof) → AnswerFits a b left right cut conflicts p q answer.Limit proof → ⊥
not_at_limit a b left right cut conflicts p q one None fits = absurd fits
not_at_limit a b left right cut conflicts p q one (Some proof) fits = fits.two_trees (one fits.left_unfolds.0 fits.right_unfolds.0 fits.left_tree fits.right_tree fits.left_unfolds.1 fits.right_unfolds.1)

pub one_tree_has_no_limit : OneTreeHasNoLimit
one_tree_has_no_limit a b left right columns cut conflicts pairs f fits one at e =
    let first = subst (λ (v : Verdict). VerdictFits a b left right columns pairs f.pairs v) e fits.verdict_is in
    let found = zip_left (PairFits a b left right cut conflicts) pairs f.pairs fits.pairs_fit first.index first.result first.result_is in
    not_at_limit a b left right cut conflicts found.0.left found.0.right (one found.0 (of_at pairs first.index found.0 found.1)) first.result.proof
    (subst (λ (x : PairAnswer). AnswerFits a b left right cut conflicts found.0.left found.0.right x first.result.proof) first.limit found.2.answer_is)
