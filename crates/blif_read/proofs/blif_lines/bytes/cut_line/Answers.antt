use Rattle.std.proofs.Common.{rules}
use Rattle.blif_read.specs.blif_lines.Lines.{cut_line}
use Rattle.blif_read.proofs.blif_lines.bytes.cut_line.Goals as goal

pub returns : goal.returns
unfolding cut_line
returns c = search rules
