use Rattle.std.proofs.Common.{nat_eq, take}
use Rattle.std.specs.List.{list_any}
use Rattle.indexmap.specs.IndexMap.{get}
use Rattle.circuit_theory.specs.Cover.{row_matches}
use Rattle.latch_kinds.specs.unate_enable.Raises.{GoOn, way_in}
use Rattle.latch_kinds.proofs.unate_enable.ways.rows_way.Given as goal

abbrev pub invariant-loop-i : goal.invariant-loop-i
invariant-loop-i l = GoOn (way_in (get nat_eq l.ways)) l.fanins l.way (λ bits. list_any (λ row. row_matches row bits) (take l.i l.rows))
