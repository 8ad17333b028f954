use Rattle.std.proofs.Common.{◌≡◌, length}
use Rattle.text_numbers.specs.Lines.{tokens_of}
use Rattle.text_numbers.proofs.tokens.first_token.Given as goal

-- no token stands before what is left
abbrev pub invariant-loop-rest : goal.invariant-loop-rest
invariant-loop-rest l = tokens_of l.line ≡ tokens_of l.rest

abbrev pub decreases-loop-rest : goal.decreases-loop-rest
decreases-loop-rest l = length l.rest
