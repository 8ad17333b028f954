use Rattle.std.proofs.Common.{◌≡◌, drop}
use Rattle.std.specs.List.{list_any}
use Rattle.elaborate.specs.Scopes.{is_long_behind}
use Rattle.elaborate.proofs.checks.are_long.Given as goal

abbrev pub invariant-loop-name : goal.invariant-loop-name
invariant-loop-name l = list_any (is_long_behind l.prefix) l.names ≡ list_any (is_long_behind l.prefix) (drop l.name-index l.names)
