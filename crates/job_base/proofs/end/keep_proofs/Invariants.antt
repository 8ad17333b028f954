use Rattle.std.specs.List.{filter_map}
use Rattle.std.proofs.Common.{◌≡◌, ◌++◌}
use Rattle.obligations.specs.declared.outcome.verdict.PairResult.{PairResult}
use Rattle.job_base.proofs.end.keep_proofs.Given as goal

abbrev pub invariant-loop-pair : goal.invariant-loop-pair
invariant-loop-pair l = l.proofs ≡ l.initial.proofs ++ filter_map (λ (r : PairResult). r.proof) l.yielded
