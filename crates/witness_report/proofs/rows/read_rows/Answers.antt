-- There are fewer rows than lines.
use Rattle.std.proofs.Common.{arith}
use Rattle.witness_report.proofs.RowTexts.{rows_left}
use Rattle.witness_report.proofs.rows.read_rows.Goals as goal

pub overflow_add-number : goal.overflow_add-number
overflow_add-number c =
    let few = rows_left c.args.lines c.loop-line.rows c.loop-line.left c.next_piece.new.self c.in-Some.line.now c.loop-line.invariant.0 c.in-Some.ensures in
    omega (arith, few, c.loop-line.invariant.2, c.requires)
