-- What is found of the pairs of two circuits with their class map, or why they can't be unfolded.
use Rattle.std.specs.Prelude.{◌≡◌, ℕ, List}
use Rattle.circuit_theory.specs.Classes.{classes_of}
use Rattle.sec_setup.specs.declared.ports.pairs.SignalPair.{SignalPair}
use Rattle.edbf_unfold.specs.class_queries.Enables.{both_of}
use Rattle.event_nodes.specs.View.{EventCircuitView}
use Rattle.event_comparison.specs.EventFindings.{EventFindings}
use Rattle.plain_check.specs.declared.under_base.compare_base.error.CompareError.{CompareError}
use Rattle.plain_check.specs.declared.under_base.compare_base.error.CompareError.TheVariants as refused
use Rattle.event_setup.specs.event_meaning.event_names.EventFormError.{EventFormError}
use Rattle.event_setup.specs.event_meaning.event_names.EventFormError.TheVariants as form_error
use Rattle.event_setup.specs.event_meaning.event_names.event_fits.Named.{NamesVerdict}
use Rattle.event_setup.specs.event_meaning.event_names.event_fits.Totals.{IsMapMade, IsWithinWith, PairsReachTooMany, PairsWeighTooMuch}
use Rattle.event_setup.specs.declared.event_meaning.event_names.names.Names.{Names}
use Rattle.event_settles.specs.declared.cares.PairCare.{PairCare}
use Rattle.event_check.specs.declared.event_answers.outcomes.Found.{Found}

-- what is found of the pairs, by the names of inputs and latches
pub record IsNamedFound (n : Names) (x : EventFindings) (classes : ℕ) (cares : List PairCare) (f : Found) : Type 0 where
  pub classes_are : f.classes ≡ classes
  pub pairs : f.pairs ≡ x.pairs
  pub verdict_is : NamesVerdict n.left n.right n.columns x.verdict f.verdict
  pub cares_are : f.cares ≡ cares

-- the class map is made, it has so many classes, and all pairs are unfolded within their numbers
pub record AreUnfolded (a b : EventCircuitView) (pairs : List SignalPair) (classes : ℕ) : Type 0 where
  pub made : IsMapMade a b
  pub classes_are : classes ≡ classes_of (both_of a b) made.map.order
  pub within : IsWithinWith a b made pairs pairs

-- why circuits whose pairs can't be unfolded aren't compared
abbrev pub refusal_of : EventFormError → CompareError
refusal_of form_error.TooManyEvents = refused.TooManyEvents
refusal_of (form_error.TooLarge side) = refused.TooLarge side
refusal_of form_error.NoMemory = refused.NoMemory

-- the first number that is passed there
abbrev pub AreNotUnfolded : EventCircuitView → EventCircuitView → List SignalPair → CompareError → Type 0
AreNotUnfolded a b pairs refused.TooManyEvents = (m : IsMapMade a b) × PairsReachTooMany a b m pairs
AreNotUnfolded a b pairs (refused.TooLarge side) = (m : IsMapMade a b) × PairsWeighTooMuch side a b m pairs
AreNotUnfolded a b pairs refused.NoMemory = Unit {0}
AreNotUnfolded a b pairs other = ⊥
