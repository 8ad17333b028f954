-- What is found under an assumption of the pairs of two circuits with their class map.
use Rattle.std.specs.Prelude.{◌≡◌, ℕ, Bool, true, List, length, Result, Ok, Err}
use Rattle.std.specs.List.{AllZip}
use Rattle.flat_net.specs.View.{NetView}
use Rattle.event_settles.specs.Cares.{CareFitsUnder}
use Rattle.event_nodes.specs.View.{EventCircuitView}
use Rattle.event_check.specs.event_answers.EventFindings.{EventFindings}
use Rattle.event_check.specs.event_answers.EventPairs.{EventPairs}
use Rattle.edbf_unfold.specs.class_queries.Enables.{both_of}
use Rattle.assume_queries.specs.assume_sequences.Assumed.{IsAssumedBy}
use Rattle.assume_queries.specs.declared.assume_sequences.premise.Premise.{Premise}
use Rattle.assume_queries.specs.assume_sequences.Filled.{bit_of}
use Rattle.assume_laws.specs.assume_shape.Shape.{assumption_of}
use Rattle.assume_laws.specs.declared.assume_shape.shape.ShapeFault.{ShapeFault}
use Rattle.assume_laws.specs.declared.assume_shape.shape.ShapeFault.TheVariants as fault
use Rattle.event_setup.specs.event_meaning.event_meaning_under.CompareError.{CompareError}
use Rattle.event_setup.specs.event_meaning.event_meaning_under.CompareError.TheVariants as refused
use Rattle.event_check.specs.event_answers.Askable.{IsAskedBy}
use Rattle.event_check.specs.event_answers.Finding.{AreNotUnfolded, AreUnfolded}
use Rattle.event_setup.specs.event_meaning.event_names.event_fits.Named.{NamesVerdict}
use Rattle.event_check.specs.event_answers.Names.{Names}
use Rattle.event_setup.specs.event_meaning.event_names.event_fits.Totals.{IsMapMade}
use Rattle.event_check.specs.declared.event_answers.outcomes.Found.{Found}
use Rattle.event_check.specs.declared.event_answers.reaching.Asked.{Asked}
use Rattle.event_under.specs.Places.{IsLightAtNodes}
use Rattle.event_setup.specs.event_meaning.event_meaning_under.Findings.{FindingsFitUnder}
use Rattle.event_setup.specs.event_meaning.event_meaning_under.Heavy.{PairsAreOver}

-- What is found of them fits the circuits under each assumption of the premise, which isn't too large for them, and all is within its numbers. Where it
-- is asked for, so does what is found of their cares.
pub record ArePairsFoundUnder (a b : EventCircuitView) (n : Names) (x : Asked) (p : Premise) (conflicts : ℕ) (settles : Bool) (f : Found) : Type 0 where
  pub unfolded : AreUnfolded a b x.pairs f.classes
  pub light : IsLightAtNodes p.weight (both_of a b) x.pairs
  pub compared : EventPairs
  pub asked : IsAskedBy n x compared
  pub found : EventFindings
  pub fits : (c : NetView) (inputs : List ℕ) (output size : ℕ) → IsAssumedBy p (length compared.names.now) c inputs output size → FindingsFitUnder (assumption_of c inputs output) a b (bit_of p.meeting) compared conflicts found
  pub pairs : f.pairs ≡ found.pairs
  pub verdict_is : NamesVerdict n.left n.right n.columns found.verdict f.verdict
  pub cares : settles ≡ true → (c : NetView) (inputs : List ℕ) (output size : ℕ) → IsAssumedBy p (length compared.names.now) c inputs output size → AllZip (CareFitsUnder (assumption_of c inputs output) (both_of a b) conflicts) x.pairs f.cares

-- the assumption is too large for them; no other fault comes of the pairs
abbrev pub IsTooLargeFor : EventCircuitView → EventCircuitView → Asked → Premise → ShapeFault → Type 0
IsTooLargeFor a b x p fault.TooLarge = (made : IsMapMade a b) × PairsAreOver p.weight a b made x.pairs
IsTooLargeFor a b x p other = ⊥

-- that, or why they can't be unfolded
abbrev pub FindsPairsUnder : EventCircuitView → EventCircuitView → Names → Asked → Premise → ℕ → Bool → Result Found CompareError → Type 0
FindsPairsUnder a b n x p conflicts settles (Ok f) = ArePairsFoundUnder a b n x p conflicts settles f
FindsPairsUnder a b n x p conflicts settles (Err (refused.Assume why)) = IsTooLargeFor a b x p why
FindsPairsUnder a b n x p conflicts settles (Err error) = AreNotUnfolded a b x.pairs error
