-- What is asked of pairs of signals in one cycle.
use Rattle.std.specs.Prelude.{◌≡◌, ◌≢◌, ◌⊎◌, ℕ, true, List, [], ◌∷◌, length, slice_get, Some}
use Rattle.aig.specs.declared.node.Node.{Node}
use Rattle.aig.specs.lane_eval.root_classes.Agreeing.{Agree}
use Rattle.cbf_unfold.specs.declared.unfold_places.signal_function.Unfolded.{Unfolded}
use Rattle.pair_decide.specs.declared.query.Query.{Query}
use Rattle.obligations.specs.declared.obligation.Obligation.{Obligation}
use Rattle.sec_setup.specs.declared.ports.pairs.SignalPair.{SignalPair}
use Rattle.reset_form.specs.reset_asked.Asked.{IsCycleQuery}

-- whether two functions agree always, as a query, or nothing where they do
abbrev pub AreQueriesOf : List Node → List (ℕ × ℕ) → Unfolded → Unfolded → List Query → Type 0
AreQueriesOf g places left right queries = (Agree g left.lit.0 right.lit.0 × (queries ≡ [])) ⊎ ((left.lit.0 ≢ right.lit.0) × (q : Query) × (queries ≡ q ∷ []) × IsCycleQuery places left right q)

-- What is asked of a pair: its name, the cycle, and the query of both functions. A difference shows always that the circuits differ.
pub record AskedIn (g : List Node) (places : List (ℕ × ℕ)) (cycle : ℕ) (x : SignalPair) (left right : Unfolded) (o : Obligation) : Type 0 where
  pub name_is : o.name ≡ x.name
  pub size_is : o.size ≡ cycle
  pub decisive_is : o.decisive ≡ true
  pub queries_are : AreQueriesOf g places left right o.queries

-- this is so of each of these pairs, of its two functions and of what is asked of it, in order
pub record AreAskedBy (R : SignalPair → Unfolded → Unfolded → Obligation → Type 0) (pairs : List SignalPair) (left right : List Unfolded) (asked : List Obligation) : Type 0 where
  pub each : length asked ≡ length pairs
  pub are : (i : ℕ) (x : SignalPair) (l r : Unfolded) (o : Obligation) → slice_get pairs i ≡ Some x → slice_get left i ≡ Some l → slice_get right i ≡ Some r → slice_get asked i ≡ Some o → R x l r o

-- that is asked of each of these pairs, in order
abbrev pub AreAskedIn : List Node → List (ℕ × ℕ) → ℕ → List SignalPair → List Unfolded → List Unfolded → List Obligation → Type 0
AreAskedIn g places cycle pairs left right asked = AreAskedBy (AskedIn g places cycle) pairs left right asked
