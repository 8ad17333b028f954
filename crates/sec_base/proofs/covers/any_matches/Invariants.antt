use Rattle.std.proofs.Common.{◌≡◌, drop}
use Rattle.std.specs.List.{list_any}
use Rattle.circuit_theory.specs.Cover.{row_matches}
use Rattle.sec_base.proofs.covers.any_matches.Given as goal

abbrev pub invariant-loop-row : goal.invariant-loop-row
invariant-loop-row l = list_any (λ row. row_matches row l.bits) l.rows ≡ list_any (λ row. row_matches row l.bits) (drop l.row-index l.rows)
