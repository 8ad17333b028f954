use Rattle.std.proofs.Common.{ℕ, Bool, nat_eq, map, take}
use Rattle.std.specs.List.{All}
use Rattle.indexmap.specs.IndexMap.{get}
use Rattle.circuit_theory.specs.Cover.{row_matches}
use Rattle.flat_net.specs.declared.signals.Signal.{Signal}
use Rattle.latch_kinds.specs.unate_enable.Raises.{MayGo, way_in}
use Rattle.latch_kinds.proofs.unate_enable.ways.row_way.Given as goal

abbrev pub invariant-loop-k : goal.invariant-loop-k
invariant-loop-k l =
    (low high : ℕ → Bool) → All (λ (s : Signal). MayGo (way_in (get nat_eq l.ways) s.0) (low s.0) (high s.0)) l.fanins →
    MayGo l.way (row_matches (take l.k l.row) (map low (map (λ (s : Signal). s.0) (take l.k l.fanins)))) (row_matches (take l.k l.row) (map high (map (λ (s : Signal). s.0) (take l.k l.fanins))))
