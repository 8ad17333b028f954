use Rattle.std.proofs.Common.{◌≡◌, ◌<◌, ℕ, slice_get, Some}
use Rattle.std.specs.Prelude.{◌≢◌}
use Rattle.obligations.specs.outcome.sec_base.PairAnswer.TheVariants as answer
use Rattle.obligations.specs.declared.outcome.verdict.PairResult.{PairResult}
use Rattle.obligations.proofs.verdict.first_limit.Given as goal

abbrev pub invariant-loop-i : goal.invariant-loop-i
invariant-loop-i l = (k : ℕ) (r : PairResult) → k < l.i → slice_get l.results k ≡ Some r → r.answer ≢ answer.Limit
