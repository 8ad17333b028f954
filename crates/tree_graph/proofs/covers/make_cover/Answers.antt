use Rattle.std.proofs.Common.{◌≡◌, ◌∙◌, ℕ, List, [], length, get_or, map, subst, ap, Bool, if◌then◌else◌, arith}
use Rattle.aig.proofs.Growth.{Grows-refl, Grows-trans, Grows-length}
use Rattle.aig.specs.Graph.{flip}
use Rattle.aig.specs.declared.node.Lit.{Lit}
use Rattle.aig.proofs.Insert.{graph-some}
use Rattle.aig.proofs.Folds.{row-at}
use Rattle.aig.specs.Making.{MakesRows}
use Rattle.tree_graph.proofs.Built.{row_grown}
use Rattle.aig.proofs.Making.{rows_step, rows_done}
use Rattle.tree_graph.proofs.covers.make_cover.Goals as goal

pub loop-i-init : goal.loop-i-init
loop-i-init c = record { grows = Grows-refl c.args.aig.now; few = c.requires.few; within = omega (arith, graph-some c.args.aig.now c.keeps-2.ensures.graph); rest = λ h x is. is }

pub make_row-requires-clause-within : goal.make_row-requires-clause-within
make_row-requires-clause-within c = λ k d h. omega (arith, c.requires.within k d h, Grows-length c.args.aig.now c.loop-i.aig c.loop-i.invariant.grows)

pub loop-i-preserved : goal.loop-i-preserved
loop-i-preserved c =
    let row : c.as_slice.result.now ≡ get_or c.rows-rows.result.now c.loop-i.i [] = c.as_slice.ensures ∙ row-at c.rows-rows.result.now c.loop-i.i c.index-rows-i.result c.loop-i-test.true c.index-rows-i.is in
    let numbers = map (λ (f : Lit). f.0) c.args.fanins.now in
    record {
      grows = Grows-trans c.args.aig.now c.loop-i.aig c.make_row.new.aig c.loop-i.invariant.grows (row_grown c.loop-i.aig c.make_row.new.aig c.loop-i.lit.0 c.as_slice.result.now numbers c.in_ok-next.next.0 c.in_ok-next.ensures.made);
      few = c.make_row.ensures.few;
      within = c.in_ok-next.ensures.within;
      rest = λ h x is.
          c.loop-i.invariant.rest h x
          (rows_step c.loop-i.aig c.make_row.new.aig h c.loop-i.lit.0 c.rows-rows.result.now numbers c.loop-i.i c.as_slice.result.now c.in_ok-next.next.0 x row c.loop-i-test.true c.in_ok-next.ensures.made is);
    }

pub returns-clause-made : goal.returns-clause-made
returns-clause-made c =
    let numbers = map (λ (f : Lit). f.0) c.args.fanins.now in
    let rows : MakesRows c.args.aig.now 0 c.rows-rows.result.now numbers c.loop-i.aig c.loop-i.lit.0 =
    c.loop-i.invariant.rest c.loop-i.aig c.loop-i.lit.0 (rows_done c.loop-i.aig c.loop-i.lit.0 c.rows-rows.result.now numbers c.loop-i.i c.loop-i-test.false) in
    (c.loop-i.lit.0, subst (λ (rs : List (List ℕ)). MakesRows c.args.aig.now 0 rs numbers c.loop-i.aig c.loop-i.lit.0) c.rows-rows.ensures rows, c.signed.ensures.literal ∙ ap (λ (b : Bool). if b then c.loop-i.lit.0 else flip c.loop-i.lit.0) c.on.ensures)

pub returns-clause-within : goal.returns-clause-within
returns-clause-within c = c.signed.ensures.within (length c.loop-i.aig) c.loop-i.invariant.within
