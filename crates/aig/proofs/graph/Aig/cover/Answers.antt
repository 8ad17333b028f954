use Rattle.std.proofs.Common.{◌≡◌, ◌∙◌, ℕ, List, [], length, get_or, map, refl, rules, subst, ap, Bool, if◌then◌else◌, arith}
use Rattle.aig.proofs.Growth.{Grows-refl, Grows-trans, Grows-length}
use Rattle.aig.specs.declared.node.Lit.{Lit}
use Rattle.aig.specs.Graph.{flip}
use Rattle.aig.specs.Making.{MakesRows}
use Rattle.aig.specs.Rules.{IsCoverOf, AreRowsOf}
use Rattle.aig.proofs.Meaning.{value-grows}
use Rattle.aig.proofs.Insert.{graph-some, value-cover_grown}
use Rattle.aig.proofs.Folds.{rows-step, rows-more, rows-done, row-at}
use Rattle.aig.proofs.Making.{rows_step, rows_done}
use Rattle.aig.proofs.graph.Aig.cover.Goals as goal

pub loop-i-init : goal.loop-i-init
loop-i-init c =
    record { grows = Grows-refl c.args.self.now; few = omega arith; within = omega (arith, graph-some c.args.self.now c.keeps-2.ensures.graph); vars = refl; rest = λ h x grows is. is; made = λ h x is. is }

pub row-requires-clause-from : goal.row-requires-clause-from
row-requires-clause-from c = c.loop-i.invariant.within

pub row-requires-clause-within : goal.row-requires-clause-within
row-requires-clause-within c = λ k d h. omega (arith, c.requires.within k d h, Grows-length c.args.self.now c.loop-i.self c.loop-i.invariant.grows)

pub loop-i-preserved : goal.loop-i-preserved
loop-i-preserved c =
    let row : c.as_slice.result.now ≡ get_or c.rows-rows.result.now c.loop-i.i [] = c.as_slice.ensures ∙ row-at c.rows-rows.result.now c.loop-i.i c.index-rows-i.result c.loop-i-test.true c.index-rows-i.is in
    record {
      grows = Grows-trans c.args.self.now c.loop-i.self c.row.new.self c.loop-i.invariant.grows c.row.ensures.grows;
      few = rows-more (length c.args.self.now) (length c.loop-i.self) (length c.row.new.self) c.loop-i.i c.args.cover.now.width (length c.as_slice.result.now) (search rules) c.loop-i.invariant.few c.row.ensures.few;
      within = c.in_ok-next.ensures.within;
      vars = c.row.ensures.vars ∙ c.loop-i.invariant.vars;
      rest = λ h x grows is.
          c.loop-i.invariant.rest h x (Grows-trans c.loop-i.self c.row.new.self h c.row.ensures.grows grows)
          (rows-step c.row.new.self h c.loop-i.lit.0 c.rows-rows.result.now (map (λ f. f.0) c.args.fanins.now) c.loop-i.i c.as_slice.result.now c.in_ok-next.next.0 x row c.loop-i-test.true c.in_ok-next.ensures.here grows is);
      made = λ h x is.
          c.loop-i.invariant.made h x
          (rows_step c.loop-i.self c.row.new.self h c.loop-i.lit.0 c.rows-rows.result.now (map (λ f. f.0) c.args.fanins.now) c.loop-i.i c.as_slice.result.now c.in_ok-next.next.0 x row c.loop-i-test.true c.in_ok-next.ensures.made is);
    }

pub returns-in_err-next-clause-grows : goal.returns-in_err-next-clause-grows
returns-in_err-next-clause-grows c = Grows-trans c.args.self.now c.loop-i.self c.row.new.self c.loop-i.invariant.grows c.row.ensures.grows

pub returns-clause-here : goal.returns-clause-here
returns-clause-here c =
    let rows : AreRowsOf c.loop-i.self 0 c.rows-rows.result.now (map (λ f. f.0) c.args.fanins.now) c.loop-i.lit.0 =
    c.loop-i.invariant.rest c.loop-i.self c.loop-i.lit.0 (Grows-refl c.loop-i.self) (rows-done c.loop-i.self c.loop-i.lit.0 c.rows-rows.result.now (map (λ f. f.0) c.args.fanins.now) c.loop-i.i c.loop-i-test.false) in
    (c.loop-i.lit.0, subst (λ (rs : List (List ℕ)). AreRowsOf c.loop-i.self 0 rs (map (λ f. f.0) c.args.fanins.now) c.loop-i.lit.0) c.rows-rows.ensures rows, c.signed.ensures.literal ∙ ap (λ (b : Bool). if b then c.loop-i.lit.0 else flip c.loop-i.lit.0) c.on.ensures)

pub returns-in_err-next-clause-older : goal.returns-in_err-next-clause-older
returns-in_err-next-clause-older c =
    value-grows c.args.self.now c.row.new.self (Grows-trans c.args.self.now c.loop-i.self c.row.new.self c.loop-i.invariant.grows c.row.ensures.grows)

pub returns-clause-within : goal.returns-clause-within
returns-clause-within c = c.signed.ensures.within (length c.loop-i.self) c.loop-i.invariant.within

pub returns-clause-value : goal.returns-clause-value
returns-clause-value c = λ a.
    let here : IsCoverOf c.loop-i.self c.args.cover.now (map (λ f. f.0) c.args.fanins.now) c.signed.result.0 = returns-clause-here c in
    value-cover_grown c.args.self.now c.loop-i.self c.keeps-3.ensures.graph c.loop-i.invariant.grows c.args.cover.now c.args.fanins.now c.signed.result.0 c.requires.within here a

pub returns-clause-older : goal.returns-clause-older
returns-clause-older c = value-grows c.args.self.now c.loop-i.self c.loop-i.invariant.grows

pub returns-clause-made : goal.returns-clause-made
returns-clause-made c =
    let numbers = map (λ (f : Lit). f.0) c.args.fanins.now in
    let rows : MakesRows c.args.self.now 0 c.rows-rows.result.now numbers c.loop-i.self c.loop-i.lit.0 =
    c.loop-i.invariant.made c.loop-i.self c.loop-i.lit.0 (rows_done c.loop-i.self c.loop-i.lit.0 c.rows-rows.result.now numbers c.loop-i.i c.loop-i-test.false) in
    (c.loop-i.lit.0, subst (λ (rs : List (List ℕ)). MakesRows c.args.self.now 0 rs numbers c.loop-i.self c.loop-i.lit.0) c.rows-rows.ensures rows, c.signed.ensures.literal ∙ ap (λ (b : Bool). if b then c.loop-i.lit.0 else flip c.loop-i.lit.0) c.on.ensures)
