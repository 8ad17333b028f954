use Rattle.std.proofs.Common.{◌≡◌, ◌<◌, ℕ, slice_get, Some}
use Rattle.net_names.specs.Renamed.{name_on}
use Rattle.net_names.specs.declared.latch_pairs.LatchPair.{LatchPair}
use Rattle.job_pair.specs.job_renamed.Texts.{HasLatch}
use Rattle.job_pair.proofs.job_renamed.renamed_net.find_latches.Given as goal

abbrev pub invariant-loop-pair : goal.invariant-loop-pair
invariant-loop-pair l = (i : ℕ) (p : LatchPair) → slice_get l.pairs i ≡ Some p → i < l.pair-index → HasLatch l.net (name_on l.side p)
