use Rattle.std.specs.List.{filter_map}
use Rattle.std.proofs.Common.{◌≡◌}
use Rattle.induct.specs.declared.induction.InductPair.{InductPair}
use Rattle.sec_jobs.proofs.job_induct.judging.pair_proofs.Given as goal

abbrev pub invariant-loop-pair : goal.invariant-loop-pair
invariant-loop-pair l = l.proofs ≡ filter_map (λ (p : InductPair). p.proof) l.yielded
