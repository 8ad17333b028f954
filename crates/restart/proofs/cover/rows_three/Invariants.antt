use Rattle.std.proofs.Common.{◌≡◌, map, drop, slice_index_or, None}
use Rattle.circuit_laws.specs.start_laws.Known.{three_or, rows_three}
use Rattle.restart.proofs.cover.rows_three.Given as goal

abbrev pub invariant-loop-row : goal.invariant-loop-row
invariant-loop-row l =
    rows_three l.rows (map (λ f. slice_index_or l.values f.0 None) l.fanins)
    ≡ three_or l.found (rows_three (drop l.row-index l.rows) (map (λ f. slice_index_or l.values f.0 None) l.fanins))
