-- What is asked of pairs of signals in one cycle under an assumption.
use Rattle.std.specs.Prelude.{◌≡◌, ◌≢◌, ◌⊎◌, ℕ, true, List, [], ◌∷◌}
use Rattle.cbf_unfold.specs.declared.unfold_places.signal_function.Unfolded.{Unfolded}
use Rattle.cbf_unfold.specs.shift_variables.cycle_variables.Cycles.{IsCycleMerge}
use Rattle.pair_decide.specs.declared.query.Query.{Query}
use Rattle.obligations.specs.declared.obligation.Obligation.{Obligation}
use Rattle.cycle_search.specs.Asked.{AreAskedBy}
use Rattle.sec_setup.specs.declared.ports.pairs.SignalPair.{SignalPair}

-- the query of two functions with the care of a cycle: its variables are those of all three
pub record IsCareQuery (places : List (ℕ × ℕ)) (left right care : Unfolded) (q : Query) : Type 0 where
  pub left_is : q.left ≡ left.lit
  pub right_is : q.right ≡ right.lit
  pub care_is : q.care ≡ care.lit
  pub sides : List ℕ
  pub sides_are : IsCycleMerge places left.vars right.vars sides
  pub variables_are : IsCycleMerge places sides care.vars q.vars

-- whether two functions agree where the care holds, as a query; nothing is asked where they have one literal
abbrev pub AreQueriesUnder : List (ℕ × ℕ) → Unfolded → Unfolded → Unfolded → List Query → Type 0
AreQueriesUnder places care left right queries = ((left.lit.0 ≡ right.lit.0) × (queries ≡ [])) ⊎ ((left.lit.0 ≢ right.lit.0) × (q : Query) × (queries ≡ q ∷ []) × IsCareQuery places left right care q)

-- What is asked of a pair: its name, the cycle, and the query. A difference shows always that the circuits differ.
pub record AskedUnder (places : List (ℕ × ℕ)) (care : Unfolded) (cycle : ℕ) (x : SignalPair) (left right : Unfolded) (o : Obligation) : Type 0 where
  pub name_is : o.name ≡ x.name
  pub size_is : o.size ≡ cycle
  pub decisive_is : o.decisive ≡ true
  pub queries_are : AreQueriesUnder places care left right o.queries

-- of each of these pairs, in order
abbrev pub AreAskedUnder : List (ℕ × ℕ) → Unfolded → ℕ → List SignalPair → List Unfolded → List Unfolded → List Obligation → Type 0
AreAskedUnder places care cycle pairs left right asked = AreAskedBy (AskedUnder places care cycle) pairs left right asked
