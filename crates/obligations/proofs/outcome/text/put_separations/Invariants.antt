use Rattle.std.specs.Prelude.{◌≡◌, ◌++◌, take}
use Rattle.std.specs.List.{flat_map}
use Rattle.obligations.specs.outcome.Report.{separation_text}
use Rattle.obligations.proofs.outcome.text.put_separations.Given as goal

abbrev pub invariant-loop-separation : goal.invariant-loop-separation
invariant-loop-separation l = l.text.items ≡ l.initial.text.items ++ flat_map separation_text (take l.separation-index l.apart)
