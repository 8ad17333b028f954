use Rattle.std.proofs.Common.{◌++◌, map, take}
use Rattle.elaborate.specs.State.{Keeps, AreNamed}
use Rattle.elaborate.proofs.numbers.numbers.Given as goal

abbrev pub invariant-loop-name : goal.invariant-loop-name
invariant-loop-name l = record {
  keeps : Keeps l.initial.table l.table;
  named : AreNamed l.table l.ids (map (λ name. l.prefix ++ name) (take l.name-index l.names));
}
