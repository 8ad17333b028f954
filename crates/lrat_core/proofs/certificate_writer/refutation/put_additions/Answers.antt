use Rattle.std.proofs.Common.{◌+◌, ◌∙◌, ◌++◌, List, length, take, get_or, refl, sym, ap, arith}
use Rattle.std.proofs.lemmas.List.{length-take-le}
use Rattle.proof_check.specs.Literals.{Literal}
use Rattle.proof_check.specs.declared.derivation.Chain.{Chain}
use Rattle.lrat_core.proofs.certificate_writer.Additions.{text_none, text_more, at_below, front_within, one_within}
use Rattle.lrat_core.proofs.certificate_writer.refutation.put_additions.Goals as goal

pub loop-at-init : goal.loop-at-init
loop-at-init c = (refl, ap (λ xs. c.args.text.now.items ++ xs) (text_none c.args.clauses.now c.args.log.now c.args.derived.now))

pub slice_bounds-known-end : goal.slice_bounds-known-end
slice_bounds-known-end c =
    let below =
    at_below c.args.clauses.now c.args.log.now c.args.derived.now c.requires.derives c.as_slice-chain-items.result.now c.as_slice.result.now c.loop-at.at c.as_slice-chain-items.ensures c.as_slice.ensures c.loop-at-test.true in
    sym (length-take-le c.loop-at.at c.as_slice.result.now (omega (arith, below)))

pub bounds-as_slice-at : goal.bounds-as_slice-at
bounds-as_slice-at c =
    at_below c.args.clauses.now c.args.log.now c.args.derived.now c.requires.derives c.as_slice-chain-items.result.now c.as_slice-in-loop-at.result.now c.loop-at.at c.as_slice-chain-items.ensures c.as_slice-in-loop-at.ensures c.loop-at-test.true

pub put_addition-requires-clause-clauses : goal.put_addition-requires-clause-clauses
put_addition-requires-clause-clauses c =
    front_within c.args.clauses.now c.args.log.now c.args.derived.now c.requires.derives c.as_slice-chain-items.result.now c.as_slice.result.now c.loop-at.at c.as_slice-chain-items.ensures c.as_slice.ensures c.loop-at-test.true
    c.args.trail.now.variables c.loop-at.trail.variables c.loop-at.invariant.0 c.requires.within

pub put_addition-requires-clause-clause : goal.put_addition-requires-clause-clause
put_addition-requires-clause-clause c =
    one_within c.args.clauses.now c.args.log.now c.args.derived.now c.requires.derives c.as_slice-chain-items.result.now c.as_slice-in-loop-at.result.now c.loop-at.at c.as_slice-chain-items.ensures c.as_slice-in-loop-at.ensures c.loop-at-test.true
    c.args.trail.now.variables c.loop-at.trail.variables c.index-as_slice-at.result c.loop-at.invariant.0 c.requires.within c.index-as_slice-at.is

pub loop-at-preserved : goal.loop-at-preserved
loop-at-preserved c =
    let known = c.args.clauses.now in
    let log = c.args.log.now in
    let derived = c.args.derived.now in
    let at = c.loop-at.at in
    let chain = c.chain-item.result in
    let clause = c.index-as_slice-at.result in
    let below =
    at_below known log derived c.requires.derives c.as_slice-chain-items.result.now c.as_slice-in-loop-at.result.now at c.as_slice-chain-items.ensures c.as_slice-in-loop-at.ensures c.loop-at-test.true in (
      c.put_addition.ensures.variables ∙ c.loop-at.invariant.0,
      text_more known log derived at (c.len.result + at + 1) chain clause clause (known ++ take at c.as_slice.result.now) c.loop-at.text.items c.put_addition.new.text.items _
          (omega (arith, c.loop-at-test.true, ap (λ (cs : List Chain). length cs) c.as_slice-chain-items.ensures)) (c.chain-item.is ∙ ap (λ (cs : List Chain). get_or cs at chain) c.as_slice-chain-items.ensures)
          (omega (arith, below, ap (λ (cs : List (List Literal)). length cs) c.as_slice-in-loop-at.ensures)) (c.index-as_slice-at.is ∙ ap (λ (cs : List (List Literal)). get_or cs at clause) c.as_slice-in-loop-at.ensures) refl
          (omega (arith, c.len.ensures)) (ap (λ (cs : List (List Literal)). known ++ take at cs) c.as_slice.ensures) c.in_ok-put_addition.ensures.text c.loop-at.invariant.1,
    )
