-- What a comparison in the event form answers that finds out which pairs have care.
use Rattle.std.specs.Prelude.{◌≡◌, ◌⊎◌, Bool, true, false, List, [], map, Result, Ok, Err}
use Rattle.std.specs.List.{AllZip}
use Rattle.circuit_theory.specs.Classes.{HasClasses}
use Rattle.flat_net.specs.View.{NetView, circuit_of}
use Rattle.sec_base.specs.declared.settings.Settings.{Settings}
use Rattle.sec_setup.specs.declared.ports.pairs.SignalPair.{SignalPair}
use Rattle.sec_setup.specs.ports.Pairs.{named_pairs, places_of}
use Rattle.obligations.specs.declared.outcome.verdict.Outcome.{Outcome}
use Rattle.obligations.specs.outcome.Report.{knows_pairs}
use Rattle.edbf_unfold.specs.class_queries.Enables.{both_of}
use Rattle.event_nodes.specs.View.{EventCircuitView}
use Rattle.event_settles.specs.Cares.{CareFits}
use Rattle.event_settles.specs.declared.cares.PairCare.{PairCare}
use Rattle.event_setup.specs.event_meaning.event_names.event_fits.Circuits.{AreReached}
use Rattle.event_setup.specs.event_meaning.event_names.event_fits.Compared.{ComparedInEvents}
use Rattle.plain_check.specs.declared.under_base.compare_base.error.CompareError.{CompareError}
use Rattle.event_check.specs.declared.event_answers.outcomes.Settled.{Settled}

-- The pairs are asked about, in order, over both circuits as they are cut and with their classes: these are their cares.
pub record HaveCares (a b : NetView) (settings : Settings) (o : Outcome) (cares : List PairCare) : Type 0 where
  pub known : knows_pairs o.verdict ≡ true
  pub left : EventCircuitView
  pub right : EventCircuitView
  pub reached : AreReached a b settings.expose o.exposed left right
  pub classes : HasClasses (both_of left right)
  pub pairs : List SignalPair
  pub listed : map places_of pairs ≡ named_pairs o.exposed (circuit_of a) (circuit_of b)
  pub each : AllZip (CareFits (both_of left right) settings.conflicts) pairs cares

-- no pair is asked about, or these are the cares of all
abbrev pub CaresFit : NetView → NetView → Settings → Outcome → List PairCare → Type 0
CaresFit a b settings o cares = ((knows_pairs o.verdict ≡ false) × (cares ≡ [])) ⊎ HaveCares a b settings o cares

-- the answer of a comparison, and where it is asked for the cares of its pairs
abbrev pub SettlesInEvents : Bool → NetView → NetView → Settings → Result Settled CompareError → Type 0
SettlesInEvents settles a b settings (Ok s) = ComparedInEvents a b settings (Ok s.outcome) × (settles ≡ true → CaresFit a b settings s.outcome s.cares)
SettlesInEvents settles a b settings (Err error) = ComparedInEvents a b settings (Err error)
