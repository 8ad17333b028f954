use Rattle.std.proofs.Common.{◌≡◌, map, take}
use Rattle.event_nodes.proofs.event_variables.ordering.numbers_of.Given as goal

abbrev pub invariant-loop-key : goal.invariant-loop-key
invariant-loop-key l = l.numbers.items ≡ map (λ key. key.variable) (take l.key-index l.keys)
