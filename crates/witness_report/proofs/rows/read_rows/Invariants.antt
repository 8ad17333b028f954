use Rattle.std.proofs.Common.{◌≡◌, ◌+◌, ◌++◌, map, length}
use Rattle.witness_report.specs.Text.{row_text}
use Rattle.witness_report.specs.Form.{AreRows}
use Rattle.witness_report.proofs.rows.read_rows.Given as goal

abbrev pub invariant-loop-line : goal.invariant-loop-line
invariant-loop-line l = (l.initial.left ≡ map row_text l.rows ++ l.left) × AreRows l.count l.rows × (l.number ≡ length l.rows + 2)

abbrev pub decreases-loop-line : goal.decreases-loop-line
decreases-loop-line l = length l.left
