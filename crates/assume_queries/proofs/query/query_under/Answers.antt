-- The care is that of the functions, and the variables are both lists as one.
use Rattle.std.proofs.Common.{◌≡◌, ◌∙◌, ◌*◌, ◌<◌, ℕ, List, length, refl, sym, ap, subst, arith}
use Rattle.std.specs.List.{All}
use Rattle.circuit_theory.proofs.Lists.{length-map}
use Rattle.aig.specs.declared.node.Lit.{Lit}
use Rattle.assume_queries.specs.Care.{IsConjunction}
use Rattle.assume_queries.specs.assume_answers.Order.{AreOrdered, IsOrderedMerge}
use Rattle.assume_queries.specs.Parts.{function_at, literals_at}
use Rattle.assume_queries.proofs.Parting.{literals_within}
use Rattle.assume_queries.proofs.query.query_under.Goals as goal

pub conjunction-requires : goal.conjunction-requires
conjunction-requires c =
    let functions = c.args.functions.now in
    let own = c.args.own.now in
    let g = c.args.aig.now in
    let same : c.as_slice.result.now ≡ literals_at functions own = c.as_slice.ensures.value ∙ c.in_ok-lits.ensures in
    record {
      within = subst (λ (ls : List Lit). All (λ (l : Lit). l.0 < 2 * length g) ls) (sym same) (literals_within (2 * length g) functions own c.requires.literals c.requires.within);
      room = omega (arith, c.requires.room, ap (λ (ls : List Lit). length ls) same, length-map (λ n. (function_at functions n).lit) own);
    }

pub merged-requires : goal.merged-requires
merged-requires c = record {
  left = subst (AreOrdered c.args.order c.args.table.now) (sym c.as_slice-2.ensures) c.requires.sides;
  right = subst (AreOrdered c.args.order c.args.table.now) (sym (c.as_slice-3.ensures.value ∙ c.in_ok-read.ensures)) c.requires.read;
}

pub returns-clause-made : goal.returns-clause-made
returns-clause-made c =
    let functions = c.args.functions.now in
    let own = c.args.own.now in
    record {
      within = c.requires.within;
      sides = c.requires.sides;
      left_is = refl;
      right_is = refl;
      care = subst (λ (ls : List Lit). IsConjunction c.args.aig.now ls c.conjunction.new.aig c.in_ok-care.care.0) (c.as_slice.ensures.value ∙ c.in_ok-lits.ensures) c.in_ok-care.ensures.conjunction;
      variables = subst (λ (vs : List ℕ). IsOrderedMerge c.args.order c.args.table.now c.args.query.now.vars vs c.in_ok-vars.vars) (c.as_slice-3.ensures.value ∙ c.in_ok-read.ensures)
          (subst (λ (vs : List ℕ). IsOrderedMerge c.args.order c.args.table.now vs c.as_slice-3.result.now c.in_ok-vars.vars) c.as_slice-2.ensures c.in_ok-vars.ensures);
    }

pub returns-clause-few : goal.returns-clause-few
returns-clause-few c =
    let same = c.as_slice.ensures.value ∙ c.in_ok-lits.ensures in
    omega (arith, c.conjunction.ensures.few, ap (λ (ls : List Lit). length ls) same, length-map (λ n. (function_at c.args.functions.now n).lit) c.args.own.now)
