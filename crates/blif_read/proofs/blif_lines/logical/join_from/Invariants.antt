use Rattle.std.proofs.Common.{◌≡◌, length}
use Rattle.blif_read.specs.blif_lines.Lines.{before_line, left_lines, physical_left}
use Rattle.blif_read.proofs.blif_lines.logical.join_from.Given as goal

-- the bytes so far go before what is left
abbrev pub invariant-loop-piece : goal.invariant-loop-piece
invariant-loop-piece l =
    before_line l.number l.fn.begun.items (left_lines l.pieces.is_done l.pieces.number l.pieces.rest.now) ≡ before_line l.number l.bytes.items (left_lines l.after.is_done l.after.number l.after.rest.now)

abbrev pub decreases-loop-piece : goal.decreases-loop-piece
decreases-loop-piece l = length (physical_left l.after.is_done l.after.rest.now)
