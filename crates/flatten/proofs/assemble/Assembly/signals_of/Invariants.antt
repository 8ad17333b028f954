use Rattle.std.proofs.Common.{◌≡◌, map, take}
use Rattle.std.specs.Prelude.{slice_index_or}
use Rattle.flatten.proofs.assemble.Assembly.signals_of.Given as goal

abbrev pub invariant-loop-number : goal.invariant-loop-number
invariant-loop-number l = l.signals ≡ map (λ n. slice_index_or l.self.signals.items n (record { 0 = 0 })) (take l.number-index l.numbers)
