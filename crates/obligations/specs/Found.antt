-- What is found of the queries of one obligation.
use Rattle.std.specs.Prelude.{◌≡◌, ℕ, ◌<◌, Bool, true, false, List, slice_get, Option, Some, None}
use Rattle.std.specs.List.{All}
use Rattle.obligations.specs.outcome.aig.Node.{Node}
use Rattle.obligations.specs.outcome.sec_base.PairAnswer.{PairAnswer}
use Rattle.obligations.specs.outcome.sec_base.PairAnswer.TheVariants as answer
use Rattle.obligations.specs.outcome.Query.{Query}
use Rattle.obligations.specs.outcome.Proof.{Proof}
use Rattle.obligations.specs.outcome.Decision.{Decision}
use Rattle.obligations.specs.outcome.Decision.TheVariants as decision
use Rattle.obligations.specs.outcome.Queries.{IsSame}
use Rattle.obligations.specs.outcome.Answers.{IsDifference}
use Rattle.swept_queries.specs.InStead.{DecidesInStead}
use Rattle.obligations.specs.declared.found.Found.{Found}
use Rattle.obligations.specs.declared.found.Found.TheVariants as found

-- the query stands at the place, and the sides of each one before it agree
pub record IsFirstOpen (g : List Node) (queries : List Query) (place : ℕ) (q : Query) : Type 0 where
  pub at : slice_get queries place ≡ Some q
  pub earlier : (i : ℕ) (r : Query) → i < place → slice_get queries i ≡ Some r → IsSame g r

-- the sides of the query at the place differ under the bits of its variables, and those of each one before it agree
pub record IsDifferenceOf (g : List Node) (queries : List Query) (place : ℕ) (bits : List Bool) : Type 0 where
  pub query : Query
  pub first : IsFirstOpen g queries place query
  pub differs : IsDifference g query bits

-- there is such a place
pub record Differ (g : List Node) (queries : List Query) : Type 0 where
  pub place : ℕ
  pub bits : List Bool
  pub is : IsDifferenceOf g queries place bits

-- some query met the limit, and the sides of each one before it agree
pub record IsLimitOf (g : List Node) (conflicts : ℕ) (queries : List Query) (proof : Proof) : Type 0 where
  pub place : ℕ
  pub query : Query
  pub first : IsFirstOpen g queries place query
  pub limit : DecidesInStead g query conflicts (decision.Limit proof)

abbrev pub IsFound : List Node → ℕ → List Query → Found → Type 0
IsFound g conflicts queries found.Same = All (IsSame g) queries
IsFound g conflicts queries (found.Differs place bits) = IsDifferenceOf g queries place bits
IsFound g conflicts queries (found.Limit proof) = IsLimitOf g conflicts queries proof

-- the answer to the query at a place ends the deciding with what was found, or the next one is decided
abbrev pub EndsAt : ℕ → Decision → Option Found → Type 0
EndsAt place (decision.Same by) end = end ≡ None
EndsAt place (decision.Differs bits) end = end ≡ Some (found.Differs place bits)
EndsAt place (decision.Limit proof) end = end ≡ Some (found.Limit proof)

-- how an obligation is answered whose sides differ
abbrev pub differing : Bool → PairAnswer
differing true = answer.Different
differing false = answer.NotShown
