use Rattle.std.proofs.Common.{length, ◌≤◌}
use Rattle.blif_read.specs.Heads.{lines_of}
use Rattle.blif_read.specs.State.{ReadTo, lines_among, bytes_of}
use Rattle.blif_read.proofs.reader.Reader.take_lines.Given as goal

abbrev pub invariant-loop-line : goal.invariant-loop-line
invariant-loop-line l = record {
  read : ReadTo (lines_of l.text) (lines_among l.lines) l.self;
  short : bytes_of l.lines ≤ 16777216;
}

abbrev pub decreases-loop-line : goal.decreases-loop-line
decreases-loop-line l = length l.lines
