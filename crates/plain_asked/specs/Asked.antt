-- What is asked of pairs of signals.
use Rattle.std.specs.Prelude.{◌≡◌, ℕ, Bool, not, ◌⊎◌, List, [], ◌∷◌, slice_get, Option, Some, None}
use Rattle.std.specs.List.{AllZip}
use Rattle.circuit_theory.specs.Fits.{IsPairDepth}
use Rattle.flat_net.specs.View.{NetView, circuit_of}
use Rattle.cbf_unfold.specs.declared.unfold_places.signal_function.Unfolded.{Unfolded}
use Rattle.pair_decide.specs.declared.query.Query.{Query}
use Rattle.outcome_fits.specs.Obligation.{Obligation}
use Rattle.sec_setup.specs.declared.ports.pairs.SignalPair.{SignalPair}
use Rattle.sec_setup.specs.declared.setup.Setup.{Setup}
use Rattle.sec_setup.specs.Cuts.{is_cut}
use Rattle.plain_asked.specs.declared.functions.Functions.{Functions}
use Rattle.plain_asked.specs.Pairs.{IsFunctionOf}
use Rattle.plain_asked.specs.Apart.{HaveOneLiteral}
use Rattle.plain_asked.specs.Variables.{AreInOrder, IsPairQuery}

-- one query: do the two functions agree always?
abbrev pub IsOnlyQuery : List (ℕ × ℕ) → Unfolded → Unfolded → List Query → Type 0
IsOnlyQuery places l r queries = (q : Query) × (queries ≡ q ∷ []) × IsPairQuery places l r q

-- What is asked of a pair: its name, the greater of both depths, whether no latch is cut open, and the query of both functions.
pub record IsAskedOf (a b : NetView) (left right : List ℕ) (f : Functions) (cut : Bool) (p : SignalPair) (o : Obligation) : Type 0 where
  pub name_is : o.name ≡ p.name
  pub size_is : IsPairDepth (circuit_of a) (circuit_of b) p.left.0 p.right.0 o.size
  pub decisive_is : o.decisive ≡ not cut
  pub left_function : Unfolded
  pub right_function : Unfolded
  pub left_is : IsFunctionOf a left f.aig f.places p.left.0 left_function
  pub right_is : IsFunctionOf b right f.aig f.places p.right.0 right_function
  pub queries_are : IsOnlyQuery f.places left_function right_function o.queries

-- the same of a pair of a setup
abbrev pub AskedOf : Setup → Functions → SignalPair → Obligation → Type 0
AskedOf s f p o = IsAskedOf s.left.now s.right.now s.orders.left s.orders.right f (is_cut s.exposed) p o

-- and of some of them, in order
abbrev pub AreAsked : Setup → Functions → List SignalPair → List Obligation → Type 0
AreAsked s f pairs asked = AllZip (AskedOf s f) pairs asked

-- the pair's name, the greater of both depths, whether no latch is cut open, and these queries
pub record AsksWith (s : Setup) (p : SignalPair) (queries : List Query) (o : Obligation) : Type 0 where
  pub name_is : o.name ≡ p.name
  pub size_is : IsPairDepth (circuit_of s.left.now) (circuit_of s.right.now) p.left.0 p.right.0 o.size
  pub decisive_is : o.decisive ≡ not (is_cut s.exposed)
  pub queries_are : o.queries ≡ queries

-- nothing is asked of a pair whose signals have one literal
pub record AsksNothing (s : Setup) (f : Functions) (p : SignalPair) (o : Obligation) : Type 0 where
  pub one : HaveOneLiteral s.left.now s.right.now s.orders.left s.orders.right f p
  pub asks : AsksWith s p [] o

-- What is asked of a pair where the functions of those are given whose literals differ.
abbrev pub AskedApart : Setup → Functions → SignalPair → Obligation → Type 0
AskedApart s f p o = AskedOf s f p o ⊎ AsksNothing s f p o

-- and of some of them, in order
abbrev pub AreAskedApart : Setup → Functions → List SignalPair → List Obligation → Type 0
AreAskedApart s f pairs asked = AllZip (AskedApart s f) pairs asked

-- both functions stand at the place, with their variables in order
pub record StandAt (f : Functions) (place : ℕ) : Type 0 where
  pub left : Unfolded
  pub right : Unfolded
  pub left_at : slice_get f.left.items place ≡ Some left
  pub right_at : slice_get f.right.items place ≡ Some right
  pub left_ordered : AreInOrder f.places left.vars
  pub right_ordered : AreInOrder f.places right.vars

-- the query of the functions at the place, or none
abbrev pub AreAskedAt : Functions → Option ℕ → List Query → Type 0
AreAskedAt f None queries = queries ≡ []
AreAskedAt f (Some place) queries = (l r : Unfolded) → slice_get f.left.items place ≡ Some l → slice_get f.right.items place ≡ Some r → IsOnlyQuery f.places l r queries
