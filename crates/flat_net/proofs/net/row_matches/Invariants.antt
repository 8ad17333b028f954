use Rattle.std.proofs.Common.{◌≡◌, false, map, drop, slice_index_or}
use Rattle.circuit_theory.specs.Cover.{row_matches}
use Rattle.flat_net.proofs.net.row_matches.Given as goal

abbrev pub invariant-loop-i : goal.invariant-loop-i
invariant-loop-i l =
    row_matches l.row (map (λ f. slice_index_or l.values f.0 false) l.fanins)
    ≡ row_matches (drop l.i l.row) (map (λ f. slice_index_or l.values f.0 false) (drop l.i l.fanins))
