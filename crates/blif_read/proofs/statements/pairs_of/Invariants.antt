use Rattle.std.proofs.Common.{◌≡◌, ◌++◌, map, drop}
use Rattle.std.specs.List.{list_all}
use Rattle.blif_read.specs.Fault.{is_pair}
use Rattle.blif_read.specs.Spelled.{pair_of}
use Rattle.blif_read.proofs.statements.pairs_of.Given as goal

abbrev pub invariant-loop-token : goal.invariant-loop-token
invariant-loop-token l = record {
  all : list_all is_pair (map (λ t. t.now) l.tokens) ≡ list_all is_pair (map (λ t. t.now) (drop l.token-index l.tokens));
  pairs : l.pairs ++ map pair_of (map (λ t. t.now) (drop l.token-index l.tokens)) ≡ map pair_of (map (λ t. t.now) l.tokens);
}
