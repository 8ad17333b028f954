-- What an assumption gives to queries: the numbers of their places, and its function at each of these.
use Rattle.std.specs.Prelude.{◌≡◌, ℕ, ◌+◌, ◌<◌, List, [], ◌∷◌, length, slice_get, Some}
use Rattle.std.specs.List.{All, AllZip}
use Rattle.circuit_theory.specs.Sizes.{IsWeight}
use Rattle.flat_net.specs.View.{NetView, circuit_of}
use Rattle.aig.specs.declared.node.Node.{Node}
use Rattle.pair_decide.specs.declared.query.Query.{Query}
use Rattle.cbf_unfold.specs.declared.unfold_places.signal_function.Unfolded.{Unfolded}
use Rattle.obligations.specs.declared.obligation.Obligation.{Obligation}
use Rattle.assume_laws.specs.Assume.{IsAssumption}
use Rattle.assume_laws.specs.assume_shape.Shape.{assumption_of}
use Rattle.assume_queries.specs.declared.assume_functions.own.OwnFunction.{OwnFunction}
use Rattle.assume_queries.specs.assume_functions.Functions.{IsOwnFunction}
use Rattle.assume_queries.specs.assume_functions.assume_places.Gathered.{AreOwn}
use Rattle.assume_queries.specs.declared.map.Parts.{Parts}
use Rattle.assume_queries.specs.declared.assume_answers.order.VariableOrder.{VariableOrder}
use Rattle.assume_queries.specs.assume_answers.Order.{AreOrdered}
use Rattle.assume_queries.specs.Parts.{variables_at}
use Rattle.assume_queries.specs.Made.{IsMadeOf}

-- it is the function of an assumption's output, whose cone has the weight
pub record Weighs (own : OwnFunction) (weight : ℕ) : Type 0 where
  pub net : NetView
  pub inputs : List ℕ
  pub output : ℕ
  pub size : ℕ
  pub function : IsOwnFunction net inputs output own
  pub assumption : IsAssumption (assumption_of net inputs output) size
  pub weighs : IsWeight (circuit_of net) (output ∷ []) weight

-- numbers of functions whose variables are in order, as the query's are
pub record HasParts (order : VariableOrder) (table : List (ℕ × ℕ)) (functions : List Unfolded) (q : Query) (own : List ℕ) : Type 0 where
  pub within : All (λ n. n < length functions) own
  pub sides : AreOrdered order table q.vars
  pub read : AreOrdered order table (variables_at functions own)

abbrev pub AreParts : VariableOrder → List (ℕ × ℕ) → Parts → List Query → Type 0
AreParts order table parts queries = AllZip (HasParts order table parts.functions.items) queries parts.own.items

-- the parts of these queries stand from a place on
abbrev pub ArePartsFrom : VariableOrder → List (ℕ × ℕ) → Parts → ℕ → List Query → Type 0
ArePartsFrom order table parts place queries =
    (j : ℕ) (q : Query) → slice_get queries j ≡ Some q → (own : List ℕ) × (slice_get parts.own.items (place + j) ≡ Some own) × HasParts order table parts.functions.items q own

-- and are those of the queries' own places
abbrev pub AreOwnFrom : List (ℕ × ℕ) → List (ℕ × ℕ) → Parts → ℕ → List Query → Type 0
AreOwnFrom table found parts place queries = (j : ℕ) (q : Query) (own : List ℕ) → slice_get queries j ≡ Some q → slice_get parts.own.items (place + j) ≡ Some own → AreOwn table found q own

-- r is made of q with the functions at its own places
abbrev pub IsQueryMade : VariableOrder → List (ℕ × ℕ) → List Node → List (ℕ × ℕ) → Parts → List Node → Query → Query → Type 0
IsQueryMade order table g found parts h q r = (own : List ℕ) × AreOwn table found q own × IsMadeOf order table g parts.functions.items q own h r

-- each query is, and the rest is as it was
pub record IsObligationMade (order : VariableOrder) (table : List (ℕ × ℕ)) (g : List Node) (found : List (ℕ × ℕ)) (parts : Parts) (h : List Node) (o u : Obligation) : Type 0 where
  pub name_is : u.name ≡ o.name
  pub size_is : u.size ≡ o.size
  pub decisive_is : u.decisive ≡ o.decisive
  pub queries : AllZip (IsQueryMade order table g found parts h) o.queries u.queries
