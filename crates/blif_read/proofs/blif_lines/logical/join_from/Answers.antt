use Rattle.std.proofs.Common.{sym, ◌∙◌}
use Rattle.blif_read.proofs.blif_lines.Pieces.{line_goes_on}
use Rattle.blif_read.proofs.blif_lines.logical.join_from.Goals as goal

pub loop-piece-preserved : goal.loop-piece-preserved
loop-piece-preserved c =
    let old = c.loop-piece.after in
    let new = c.next_piece.new.self in
    c.loop-piece.invariant ∙ rw c.in_ok-push.ensures.items (rw c.in_ok-extend_from_slice.ensures.items
    (line_goes_on old.is_done new.is_done old.number new.number c.args.number old.rest.now new.rest.now c.in-Some.piece.now c.cut_line-body.result.now c.loop-piece.bytes.items c.without_last.result.now
    c.in-Some.ensures.some c.in-Some.ensures.number c.cut_line-body.ensures (sym c.ends_with.ensures ∙ c.if-ends_with.true) c.without_last.ensures))
