use Rattle.std.proofs.Common.{◌≡◌, length}
use Rattle.block_refine.proofs.trial.seeded_nexts.Given as goal

abbrev pub invariant-loop-n : goal.invariant-loop-n
invariant-loop-n l = length l.bits ≡ l._n
