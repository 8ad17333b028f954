-- What is asked of pairs of signals: a query for each cycle up to the pair's depth.
use Rattle.std.specs.Prelude.{◌≡◌, ℕ, true, List, length, slice_get, Some}
use Rattle.std.specs.List.{AllZip}
use Rattle.circuit_theory.specs.Fits.{IsPairDepth}
use Rattle.flat_net.specs.View.{circuit_of}
use Rattle.cbf_unfold.specs.declared.unfold_places.signal_function.Unfolded.{Unfolded}
use Rattle.pair_decide.specs.declared.query.Query.{Query}
use Rattle.obligations.specs.declared.obligation.Obligation.{Obligation}
use Rattle.sec_setup.specs.declared.ports.pairs.SignalPair.{SignalPair}
use Rattle.sec_setup.specs.declared.setup.Setup.{Setup}
use Rattle.cbf_unfold.specs.shift_variables.Queries.{IsQueryBy}
use Rattle.cbf_unfold.specs.shift_variables.cycle_variables.Cycles.{GoesFirst}
use Rattle.reset_form.specs.declared.reset_functions.bases.Bases.{Bases}
use Rattle.reset_form.specs.declared.reset_functions.functions.Functions.{Functions}
use Rattle.reset_form.specs.reset_functions.Pairs.{AreCyclesOf}

-- the query of two functions: do they agree always? Its variables are those of both.
abbrev pub IsCycleQuery : List (ℕ × ℕ) → Unfolded → Unfolded → Query → Type 0
IsCycleQuery places = IsQueryBy (GoesFirst places)

-- one for each cycle, in order
pub record AreCycleQueries (places : List (ℕ × ℕ)) (left right : List Unfolded) (queries : List Query) : Type 0 where
  pub each : length queries ≡ length left
  pub are : (t : ℕ) (l r : Unfolded) (q : Query) → slice_get left t ≡ Some l → slice_get right t ≡ Some r → slice_get queries t ≡ Some q → IsCycleQuery places l r q

-- What is asked of a pair: its name, the greater of both depths, and the queries of both functions in the cycles up to it. A difference
-- shows always that the circuits differ.
pub record AskedOf (s : Setup) (b : Bases) (f : Functions) (x : SignalPair) (o : Obligation) : Type 0 where
  pub name_is : o.name ≡ x.name
  pub size_is : IsPairDepth (circuit_of s.left.now) (circuit_of s.right.now) x.left.0 x.right.0 o.size
  pub decisive_is : o.decisive ≡ true
  pub left_cycles : List Unfolded
  pub right_cycles : List Unfolded
  pub left_are : AreCyclesOf s.left.now s.orders.left b.left f.aig f.places (o.size, x.left.0) left_cycles
  pub right_are : AreCyclesOf s.right.now s.orders.right b.right f.aig f.places (o.size, x.right.0) right_cycles
  pub queries_are : AreCycleQueries f.places left_cycles right_cycles o.queries

-- and of some of them, in order
abbrev pub AreAsked : Setup → Bases → Functions → List SignalPair → List Obligation → Type 0
AreAsked s b f pairs asked = AllZip (AskedOf s b f) pairs asked
