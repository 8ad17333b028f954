use Rattle.std.proofs.Common.{◌≡◌, drop}
use Rattle.std.specs.List.{list_any}
use Rattle.elaborate.specs.Scopes.{is_long_behind}
use Rattle.elaborate.proofs.checks.actuals_are_long.Given as goal

abbrev pub invariant-loop-pair : goal.invariant-loop-pair
invariant-loop-pair l = list_any (λ p. is_long_behind l.prefix p.actual) l.pairs ≡ list_any (λ p. is_long_behind l.prefix p.actual) (drop l.pair-index l.pairs)
