-- One row more.
use Rattle.std.proofs.Common.{◌≡◌, ◌∙◌, ◌+◌, ℕ, List, [], length, take, get_or, false, nat_eq, refl, sym, ap, subst, arith}
use Rattle.std.specs.List.{list_any}
use Rattle.std.proofs.lemmas.List.{take_all}
use Rattle.std.proofs.lemmas.List.Elements.{All-get_or}
use Rattle.indexmap.specs.IndexMap.{get}
use Rattle.circuit_theory.specs.Cover.{row_matches}
use Rattle.latch_kinds.specs.declared.unate_enable.ways.Way.{Way}
use Rattle.latch_kinds.specs.unate_enable.Raises.{GoOn, MayGo, still, way_in}
use Rattle.latch_kinds.proofs.unate_enable.Raised.{go_equal, rows_step, row_read}
use Rattle.latch_kinds.proofs.unate_enable.ways.rows_way.Goals as goal

pub loop-i-init : goal.loop-i-init
loop-i-init c = λ low high all. subst (λ (w : Way). MayGo w false false) (sym c.still-way.ensures) (go_equal still false false refl)

pub row_way-more-requires : goal.row_way-more-requires
row_way-more-requires c = ap length (c.as_slice.ensures ∙ row_read c.args.rows.now c.loop-i.i c.index-rows-i.result c.loop-i-test.true c.index-rows-i.is) ∙ All-get_or (λ (row : List ℕ). length row ≡ length c.args.fanins.now) c.args.rows.now c.loop-i.i [] c.loop-i-test.true c.requires

pub loop-i-preserved : goal.loop-i-preserved
loop-i-preserved c =
    subst (λ (w : Way). GoOn (way_in (get nat_eq c.args.ways.now)) c.args.fanins.now w (λ bits. list_any (λ row. row_matches row bits) (take (c.loop-i.i + 1) c.args.rows.now))) (sym c.both_ways-way.ensures)
    (rows_step (way_in (get nat_eq c.args.ways.now)) c.args.fanins.now c.args.rows.now c.loop-i.i c.loop-i.way c.row_way-more.result c.loop-i-test.true c.loop-i.invariant
    (subst (λ (row : List ℕ). GoOn (way_in (get nat_eq c.args.ways.now)) c.args.fanins.now c.row_way-more.result (row_matches row)) (c.as_slice.ensures ∙ row_read c.args.rows.now c.loop-i.i c.index-rows-i.result c.loop-i-test.true c.index-rows-i.is) c.row_way-more.ensures))

pub returns : goal.returns
returns c =
    subst (λ (l : List (List ℕ)). GoOn (way_in (get nat_eq c.args.ways.now)) c.args.fanins.now c.loop-i.way (λ bits. list_any (λ row. row_matches row bits) l)) (take_all c.loop-i.i c.args.rows.now c.loop-i-test.false) c.loop-i.invariant
