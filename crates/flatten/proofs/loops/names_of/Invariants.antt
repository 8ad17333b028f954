use Rattle.std.proofs.Common.{◌≡◌, map, take}
use Rattle.elaborate.specs.Flat.{name_at}
use Rattle.flatten.proofs.loops.names_of.Given as goal

abbrev pub invariant-loop-number : goal.invariant-loop-number
invariant-loop-number l = l.words ≡ map (name_at l.flat.names) (take l.number-index l.numbers)
