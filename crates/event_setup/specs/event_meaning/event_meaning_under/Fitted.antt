-- What it means that an outcome fits two circuits, in the event form under an assumption.
use Rattle.std.specs.Prelude.{◌≡◌, ◌⊎◌, ℕ, Bool, map, length}
use Rattle.circuit_theory.specs.Interface.{shared_inputs}
use Rattle.circuit_theory.specs.Classes.{classes_of}
use Rattle.flat_net.specs.View.{NetView, circuit_of, ports_of}
use Rattle.sec_setup.specs.ports.Pairs.{named_pairs, places_of}
use Rattle.obligations.specs.declared.outcome.verdict.Outcome.{Outcome}
use Rattle.sec_setup.specs.Cuts.{columns_of, is_cut}
use Rattle.edbf_unfold.specs.class_queries.Enables.{both_of}
use Rattle.event_nodes.specs.View.{EventCircuitView}
use Rattle.event_under.specs.event_shown_under.event_under_fits.event_findings.EventFindings.{EventFindings}
use Rattle.event_setup.specs.event_meaning.event_names.event_fits.EventPairs.{EventPairs}
use Rattle.event_setup.specs.event_meaning.event_names.event_fits.Circuits.{AreReached}
use Rattle.event_setup.specs.event_meaning.event_names.event_fits.Totals.{IsMapMade, IsWithinWith}
use Rattle.event_setup.specs.event_meaning.event_names.event_fits.Named.{latch_names, NamesVerdict}
use Rattle.event_setup.specs.event_meaning.event_names.event_fits.Fitting.{IsUnrecovered, IsUnclassed}
use Rattle.assume_laws.specs.Assume.{Assumption, ReadsInputs}
use Rattle.event_under.specs.Places.{IsLightAtNodes}
use Rattle.event_under.specs.event_shown_under.event_under_fits.Findings.{FindingsFitUnder}

-- the counts of both circuits; no pair is settled from a cycle on
pub record HasCountsUnder (a b : NetView) (o : Outcome) : Type 0 where
  pub inputs : o.inputs ≡ length (shared_inputs (ports_of a) (ports_of b))
  pub left_latches : o.left_latches ≡ length a.latches
  pub right_latches : o.right_latches ≡ length b.latches
  pub through : o.through ≡ 0

-- The pairs are compared, in order, over both circuits as they are cut and with their classes, under an assumption of this weight that reads inputs of
-- both and isn't too large for the pairs: what is found of them fits, and the outcome has the results, and the verdict by the names of inputs and
-- latches. A sequence holds this row in the cycles at whose nodes it has no variable of both sides.
pub record IsComparedByPairsUnder (c : Assumption) (weight : ℕ) (meeting : ℕ → Bool) (a b : NetView) (expose : Bool) (conflicts : ℕ) (o : Outcome) : Type 0 where
  pub left : EventCircuitView
  pub right : EventCircuitView
  pub reached : AreReached a b expose o.exposed left right
  pub reads : ReadsInputs c (circuit_of left.net) left.order
  pub made : IsMapMade left right
  pub classes : o.classes ≡ classes_of (both_of left right) made.map.order
  pub compared : EventPairs
  pub listed : map places_of compared.pairs.now ≡ named_pairs o.exposed (circuit_of a) (circuit_of b)
  pub names : compared.names.now ≡ columns_of a b o.exposed
  pub cut : compared.cut ≡ is_cut o.exposed
  pub within : IsWithinWith left right made compared.pairs.now compared.pairs.now
  pub light : IsLightAtNodes weight (both_of left right) compared.pairs.now
  pub found : EventFindings
  pub fits : FindingsFitUnder c left right meeting compared conflicts found
  pub pairs : o.pairs ≡ found.pairs
  pub verdict_is : NamesVerdict (latch_names left.net) (latch_names right.net) (columns_of a b o.exposed) found.verdict o.verdict

-- The outcome fits the circuits: a limit of the enables or of the classes comes first, which are told without the assumption, and else all pairs are
-- compared.
pub record EventOutcomeFitsUnder (c : Assumption) (weight : ℕ) (meeting : ℕ → Bool) (a b : NetView) (expose : Bool) (conflicts : ℕ) (o : Outcome) : Type 0 where
  pub counts : HasCountsUnder a b o
  pub rest : IsUnrecovered a b conflicts o ⊎ (IsUnclassed a b expose conflicts o ⊎ IsComparedByPairsUnder c weight meeting a b expose conflicts o)
