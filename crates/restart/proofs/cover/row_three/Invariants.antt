use Rattle.std.proofs.Common.{◌≡◌, map, drop, slice_index_or, None}
use Rattle.circuit_laws.specs.start_laws.Known.{three_and, row_three}
use Rattle.restart.proofs.cover.row_three.Given as goal

abbrev pub invariant-loop-i : goal.invariant-loop-i
invariant-loop-i l =
    row_three l.row (map (λ f. slice_index_or l.values f.0 None) l.fanins)
    ≡ three_and l.matches (row_three (drop l.i l.row) (map (λ f. slice_index_or l.values f.0 None) (drop l.i l.fanins)))
