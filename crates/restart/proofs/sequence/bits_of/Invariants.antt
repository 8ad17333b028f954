use Rattle.std.proofs.Common.{◌≡◌, length}
use Rattle.restart.proofs.Rows.{RowUpTo}
use Rattle.restart.proofs.sequence.bits_of.Given as goal

abbrev pub invariant-loop-name : goal.invariant-loop-name
invariant-loop-name l = (length l.bits ≡ l.name-index) × RowUpTo l.header l.row l.names l.bits l.name-index
