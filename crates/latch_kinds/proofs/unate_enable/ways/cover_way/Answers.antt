-- The rows list where the value is 1, or where it is 0.
use Rattle.std.proofs.Common.{◌≡◌, ◌∙◌, ℕ, Bool, List, length, nat_eq, sym, subst}
use Rattle.std.specs.List.{All, list_any}
use Rattle.std.proofs.lemmas.List.Elements.{All-weaker}
use Rattle.indexmap.specs.IndexMap.{get}
use Rattle.circuit_theory.specs.Cover.{row_matches, cover_value}
use Rattle.sec_base.specs.Cover.{IsCube}
use Rattle.latch_kinds.specs.declared.unate_enable.ways.Way.{Way}
use Rattle.latch_kinds.specs.unate_enable.Raises.{GoOn, way_in}
use Rattle.latch_kinds.proofs.unate_enable.Raised.{cover_on, cover_off}
use Rattle.latch_kinds.proofs.unate_enable.ways.cover_way.Goals as goal

pub rows_way-found-requires : goal.rows_way-found-requires
rows_way-found-requires c =
    subst (All (λ (row : List ℕ). length row ≡ length c.args.fanins.now)) (sym c.rows.ensures)
    (All-weaker (IsCube c.args.cover.now.width) (λ (row : List ℕ). length row ≡ length c.args.fanins.now) (λ row h. h.0 ∙ c.requires) c.args.cover.now.rows c.keeps.ensures.cubes)

pub returns-then-on : goal.returns-then-on
returns-then-on c =
    cover_on (way_in (get nat_eq c.args.ways.now)) c.args.fanins.now c.args.cover.now c.rows_way-found.result (sym c.on.ensures ∙ c.if-on.true)
    (subst (λ (rows : List (List ℕ)). GoOn (way_in (get nat_eq c.args.ways.now)) c.args.fanins.now c.rows_way-found.result (λ bits. list_any (λ row. row_matches row bits) rows)) c.rows.ensures c.rows_way-found.ensures)

pub returns-else-on : goal.returns-else-on
returns-else-on c =
    subst (λ (w : Way). GoOn (way_in (get nat_eq c.args.ways.now)) c.args.fanins.now w (cover_value c.args.cover.now)) (sym c.turned.ensures)
    (cover_off (way_in (get nat_eq c.args.ways.now)) c.args.fanins.now c.args.cover.now c.rows_way-found.result (sym c.on.ensures ∙ c.if-on.false)
    (subst (λ (rows : List (List ℕ)). GoOn (way_in (get nat_eq c.args.ways.now)) c.args.fanins.now c.rows_way-found.result (λ bits. list_any (λ row. row_matches row bits) rows)) c.rows.ensures c.rows_way-found.ensures))
