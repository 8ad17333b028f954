use Rattle.std.specs.Prelude.{◌≡◌, ◌++◌, take}
use Rattle.std.specs.List.{flat_map}
use Rattle.obligations.specs.outcome.Report.{pair_line}
use Rattle.obligations.proofs.outcome.text.put_each.Given as goal

abbrev pub invariant-loop-pair : goal.invariant-loop-pair
invariant-loop-pair l = l.text.items ≡ l.initial.text.items ++ flat_map (pair_line l.mode) (take l.pair-index l.pairs)
