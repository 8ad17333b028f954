use Rattle.std.proofs.Common.{◌≡◌, ◌++◌, map, drop}
use Rattle.blif_read.proofs.names.words_of.Given as goal

abbrev pub invariant-loop-token : goal.invariant-loop-token
invariant-loop-token l = l.words ++ map (λ t. t.now) (drop l.token-index l.tokens) ≡ map (λ t. t.now) l.tokens
