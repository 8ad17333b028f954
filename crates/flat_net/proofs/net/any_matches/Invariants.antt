use Rattle.std.proofs.Common.{◌≡◌, false, map, drop, slice_index_or}
use Rattle.std.specs.List.{list_any}
use Rattle.circuit_theory.specs.Cover.{row_matches}
use Rattle.flat_net.proofs.net.any_matches.Given as goal

abbrev pub invariant-loop-row : goal.invariant-loop-row
invariant-loop-row l = list_any (λ row. row_matches row (map (λ f. slice_index_or l.values f.0 false) l.fanins)) l.rows ≡ list_any (λ row. row_matches row (map (λ f. slice_index_or l.values f.0 false) l.fanins)) (drop l.row-index l.rows)
