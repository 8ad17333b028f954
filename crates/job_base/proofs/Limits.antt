-- The proofs of an outcome whose verdict is the limit of a pair.
use Rattle.std.specs.List.{filter_map}
use Rattle.std.proofs.Common.{◌≡◌, ◌++◌, ap}
use Rattle.obligations.specs.declared.outcome.verdict.LimitAt.TheVariants as limit_at
use Rattle.obligations.specs.declared.outcome.verdict.Outcome.{Outcome}
use Rattle.obligations.specs.declared.outcome.verdict.PairResult.{PairResult}
use Rattle.obligations.specs.declared.outcome.verdict.Verdict.{Verdict}
use Rattle.obligations.specs.declared.outcome.verdict.Verdict.TheVariants as verdict
use Rattle.obligations.specs.outcome.Proofs.{verdict_proofs}
use Rattle.job_base.specs.Written.{outcome_proofs}

-- they are those of its pairs
pub pair_proofs : (o : Outcome) (name : _) → o.verdict ≡ verdict.Limit (limit_at.Pair name) → outcome_proofs o ≡ filter_map (λ (r : PairResult). r.proof) o.pairs
pair_proofs o name e = ap (λ (v : Verdict). verdict_proofs v ++ filter_map (λ (r : PairResult). r.proof) o.pairs) e
