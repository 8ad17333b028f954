use Rattle.std.proofs.Common.{◌≡◌, Bool, List, length}
use Rattle.std.specs.List.{All}
use Rattle.restart.proofs.Rows.{RowsSo}
use Rattle.restart.proofs.sequence.rows_under.Given as goal

abbrev pub invariant-loop-row : goal.invariant-loop-row
invariant-loop-row l = (length l.made ≡ l.row-index) × All (λ (row : List Bool). length row ≡ length l.names) l.made × RowsSo l.header l.rows l.names l.made
