-- What is found of the pairs of two circuits with their class map.
use Rattle.std.specs.Prelude.{◌≡◌, ℕ, Bool, true, Result, Ok, Err}
use Rattle.std.specs.List.{AllZip}
use Rattle.event_nodes.specs.View.{EventCircuitView}
use Rattle.edbf_unfold.specs.class_queries.Enables.{both_of}
use Rattle.event_settles.specs.Cares.{CareFits}
use Rattle.event_check.specs.event_answers.Findings.{FindingsFit}
use Rattle.event_check.specs.event_answers.EventFindings.{EventFindings}
use Rattle.event_check.specs.event_answers.EventPairs.{EventPairs}
use Rattle.event_setup.specs.event_meaning.event_meaning_under.CompareError.{CompareError}
use Rattle.event_check.specs.event_answers.Askable.{IsAskedBy}
use Rattle.event_check.specs.event_answers.Finding.{AreNotUnfolded, AreUnfolded}
use Rattle.event_setup.specs.event_meaning.event_names.event_fits.Named.{NamesVerdict}
use Rattle.event_check.specs.event_answers.Names.{Names}
use Rattle.event_check.specs.declared.event_answers.outcomes.Found.{Found}
use Rattle.event_check.specs.declared.event_answers.reaching.Asked.{Asked}

-- what is found of them fits the circuits, and all is within its numbers; where it is asked for, so does what is found of their cares
pub record ArePairsFound (a b : EventCircuitView) (n : Names) (x : Asked) (conflicts : ℕ) (settles : Bool) (f : Found) : Type 0 where
  pub unfolded : AreUnfolded a b x.pairs f.classes
  pub compared : EventPairs
  pub asked : IsAskedBy n x compared
  pub found : EventFindings
  pub fits : FindingsFit a b compared conflicts found
  pub pairs : f.pairs ≡ found.pairs
  pub verdict_is : NamesVerdict n.left n.right n.columns found.verdict f.verdict
  pub cares : settles ≡ true → AllZip (CareFits (both_of a b) conflicts) x.pairs f.cares

-- or why they can't be unfolded
abbrev pub FindsPairs : EventCircuitView → EventCircuitView → Names → Asked → ℕ → Bool → Result Found CompareError → Type 0
FindsPairs a b n x conflicts settles (Ok f) = ArePairsFound a b n x conflicts settles f
FindsPairs a b n x conflicts settles (Err error) = AreNotUnfolded a b x.pairs error
