use Rattle.std.proofs.Common.{◌≡◌, ◌++◌, length, map}
use Rattle.blif_read.specs.blif_lines.Lines.{tokens_of}
use Rattle.blif_read.proofs.blif_lines.tokens.tokens_of.Given as goal

abbrev pub invariant-loop-rest : goal.invariant-loop-rest
invariant-loop-rest l = map (λ t. t.now) l.tokens.items ++ tokens_of l.rest ≡ tokens_of l.bytes

abbrev pub decreases-loop-rest : goal.decreases-loop-rest
decreases-loop-rest l = length l.rest
