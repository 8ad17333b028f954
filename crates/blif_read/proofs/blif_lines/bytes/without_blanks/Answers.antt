use Rattle.std.proofs.Common.{arith, sym, ◌∙◌}
use Rattle.blif_read.proofs.blif_lines.Pieces.{blanks_from}
use Rattle.blif_read.proofs.blif_lines.bytes.without_blanks.Goals as goal
use Rattle.blif_read.proofs.blif_lines.bytes.without_blanks.Goals.{then-loop-end-test+else-is_blank, else-loop-end-test}

pub returns : goal.returns
returns c =
    blanks_from c.args.bytes.now c.loop-end.end c.loop-end.invariant.0 c.loop-end.invariant.1 (λ h.
    elim c.loop-end-test.branch [ then-loop-end-test+else-is_blank w ↦ sym w.is_blank.ensures ∙ w.if-is_blank.false | else-loop-end-test w ↦ absurd (omega arith) ])
