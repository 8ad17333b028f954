use Rattle.std.proofs.Common.{◌≡◌, ◌++◌, map, length}
use Rattle.blif_read.specs.blif_lines.Lines.{logical_lines}
use Rattle.job_pair.specs.job_renamed.Texts.{line_of, lines_with_words}
use Rattle.job_pair.proofs.job_renamed.pairs_text.read_pairs.Given as goal

abbrev pub invariant-loop-pairs : goal.invariant-loop-pairs
invariant-loop-pairs l = logical_lines l.text ≡ map line_of l.pairs.items ++ lines_with_words l.lines

abbrev pub decreases-loop-pairs : goal.decreases-loop-pairs
decreases-loop-pairs l = length l.lines
