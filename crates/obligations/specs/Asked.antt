-- What is asked, as queries over one graph.
use Rattle.std.specs.Prelude.{◌≡◌, ℕ, List, [], ◌∷◌, ◌++◌, slice_get, Option, Some, None}
use Rattle.std.specs.List.{All, AllZip}
use Rattle.obligations.specs.outcome.aig.Node.{Node}
use Rattle.obligations.specs.outcome.Query.{Query}
use Rattle.obligations.specs.outcome.Queries.{IsQuery}
use Rattle.swept_queries.specs.declared.sides.Sides.{Sides}
use Rattle.swept_queries.specs.declared.queries.SweptQueries.{SweptQueries}
use Rattle.swept_queries.specs.InStead.{sides_of, IsKnown}
use Rattle.obligations.specs.declared.obligation.Obligation.{Obligation}

-- each query is one over the graph
abbrev pub AreAsked : List Node → List Obligation → Type 0
AreAsked g asked = All (λ (o : Obligation). All (IsQuery g) o.queries) asked

-- the queries of all, in order
abbrev pub queries_of : List Obligation → List Query
queries_of [] = []
queries_of (o ∷ rest) = o.queries ++ queries_of rest

-- nothing is swept for the query, or its literals are
abbrev pub MaySweep : Query → Option Sides → Type 0
MaySweep q None = Unit {0}
MaySweep q (Some t) = t ≡ sides_of q

-- what may be swept for these queries stands behind the rest
pub record HaveMore (queries : List Query) (old new : List (Option Sides)) : Type 0 where
  pub more : List (Option Sides)
  pub behind : new ≡ old ++ more
  pub are : AllZip MaySweep queries more

-- what is known at each place is true of the query there
abbrev pub AreKnown : List Node → SweptQueries → List Query → Type 0
AreKnown g s queries = (i : ℕ) (q : Query) → slice_get queries i ≡ Some q → IsKnown g s i q
