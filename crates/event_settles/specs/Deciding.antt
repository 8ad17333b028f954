-- What is decided of the cares of queries.
use Rattle.std.specs.Prelude.{◌≡◌, ℕ, Bool, true, false, List, [], ◌∷◌}
use Rattle.aig.specs.declared.node.Node.{Node}
use Rattle.aig.specs.Values.{value}
use Rattle.obligations.specs.outcome.Query.{Query}
use Rattle.obligations.specs.outcome.Queries.{IsQuery, assigned_to}
use Rattle.obligations.specs.outcome.Answers.{IsAtLimit}
use Rattle.obligations.specs.declared.obligation.Obligation.{Obligation}
use Rattle.event_settles.specs.declared.cares.Care.{Care}
use Rattle.event_settles.specs.declared.cares.Care.TheVariants as care
use Rattle.event_settles.specs.declared.cares.PairCare.{PairCare}

-- it asks one query, of the graph
pub record HasOneQuery (g : List Node) (o : Obligation) : Type 0 where
  pub query : Query
  pub only : o.queries ≡ query ∷ []
  pub asked : IsQuery g query

-- is the query's care 0 always?
abbrev pub care_query : Query → Query
care_query q = record { left = q.care; right = record { 0 = 0 }; care = record { 0 = 1 }; vars = q.vars }

-- some bits of the query's variables meet its care; or no assignment does; or the limit was met
abbrev pub CareDecides : List Node → Query → ℕ → Care → Type 0
CareDecides g q conflicts care.Met = (bits : List Bool) × (value g (assigned_to q.vars bits) q.care.0 ≡ true)
CareDecides g q conflicts (care.Never idle) = (a : ℕ → Bool) → value g a q.care.0 ≡ false
CareDecides g q conflicts (care.Limit proof) = IsAtLimit g (care_query q) conflicts proof

-- that is found of the one query's care
pub record IsCareDecided (g : List Node) (conflicts : ℕ) (o : Obligation) (c : PairCare) : Type 0 where
  pub name_is : c.name ≡ o.name
  pub query : Query
  pub only : o.queries ≡ query ∷ []
  pub care_is : CareDecides g query conflicts c.care
