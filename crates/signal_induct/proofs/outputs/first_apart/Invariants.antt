use Rattle.std.specs.Prelude.{◌≡◌, drop}
use Rattle.signal_induct.specs.Tied.{first_apart}
use Rattle.signal_induct.proofs.outputs.first_apart.Given as goal

abbrev pub invariant-loop-pair : goal.invariant-loop-pair
invariant-loop-pair l = first_apart l.pairs ≡ first_apart (drop l.pair-index l.pairs)
