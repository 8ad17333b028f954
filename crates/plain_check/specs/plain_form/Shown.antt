-- What shows the verdict at an obligation.
use Rattle.std.specs.Prelude.{◌≡◌, ℕ, ◌*◌, ◌<◌, List, length, slice_get, Some}
use Rattle.pair_decide.specs.declared.query.Query.{Query}
use Rattle.witness_report.specs.declared.witness.Witness.{Witness}
use Rattle.obligations.specs.declared.outcome.verdict.PairResult.{PairResult}
use Rattle.obligations.specs.declared.outcome.verdict.Verdict.{Verdict}
use Rattle.obligations.specs.declared.outcome.verdict.Verdict.TheVariants as verdict
use Rattle.obligations.specs.declared.outcome.verdict.Why.TheVariants as why
use Rattle.obligations.specs.declared.outcome.verdict.LimitAt.TheVariants as limit_at
use Rattle.obligations.specs.declared.obligation.Obligation.{Obligation}
use Rattle.obligations.specs.declared.obligation.Difference.{Difference}
use Rattle.obligations.specs.declared.verdict.VerdictAt.{VerdictAt}
use Rattle.obligations.specs.declared.verdict.VerdictAt.TheVariants as at
use Rattle.plain_asked.specs.declared.functions.Functions.{Functions}
use Rattle.plain_asked.specs.Sequences.{IsQueryAt, IsSequence, IsWitnessOf}

-- its bits give a sequence over the inputs of these names
pub record IsShowable (f : Functions) (columns : List (List ℕ)) (asked : List Obligation) (d : Difference) : Type 0 where
  pub obligation : Obligation
  pub query : Query
  pub at : IsQueryAt asked d obligation query
  pub left : query.left.0 < 2 * length f.aig
  pub right : query.right.0 < 2 * length f.aig
  pub sequence : IsSequence f.places query.vars d.bits obligation.size (length columns)

abbrev pub CanBeShown : Functions → List (List ℕ) → List Obligation → List PairResult → VerdictAt → Type 0
CanBeShown f columns asked results at.Equal = Unit {0}
CanBeShown f columns asked results (at.Different d) = IsShowable f columns asked d
CanBeShown f columns asked results (at.Limit place) = place < length results
CanBeShown f columns asked results (at.NotShown d) = IsShowable f columns asked d

-- the sequence of a difference
pub record IsWitnessAt (f : Functions) (columns : List (List ℕ)) (asked : List Obligation) (d : Difference) (w : Witness) : Type 0 where
  pub obligation : Obligation
  pub query : Query
  pub at : IsQueryAt asked d obligation query
  pub is : IsWitnessOf f.aig f.places query d.bits obligation.name obligation.size columns w

abbrev pub IsShown : Functions → List (List ℕ) → List Obligation → List PairResult → VerdictAt → Verdict → Type 0
IsShown f columns asked results at.Equal v = v ≡ verdict.Equal
IsShown f columns asked results (at.Different d) v = (w : Witness) × (v ≡ verdict.Different w) × IsWitnessAt f columns asked d w
IsShown f columns asked results (at.Limit place) v = (r : PairResult) × (slice_get results place ≡ Some r) × (v ≡ verdict.Limit (limit_at.Pair r.name))
IsShown f columns asked results (at.NotShown d) v = (w : Witness) × (v ≡ verdict.NotShown (why.Cut w)) × IsWitnessAt f columns asked d w
