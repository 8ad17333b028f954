-- What a comparison in the event form under an assumption answers that finds out which pairs have care.
use Rattle.std.specs.Prelude.{◌≡◌, ◌⊎◌, Bool, true, false, List, [], map, Result, Ok, Err}
use Rattle.std.specs.List.{AllZip}
use Rattle.circuit_theory.specs.Classes.{HasClasses}
use Rattle.flat_net.specs.View.{NetView, circuit_of}
use Rattle.sec_base.specs.declared.settings.Settings.{Settings}
use Rattle.assume_laws.specs.Assume.{ReadsInputs}
use Rattle.sec_setup.specs.declared.ports.pairs.SignalPair.{SignalPair}
use Rattle.sec_setup.specs.ports.Pairs.{named_pairs, places_of}
use Rattle.obligations.specs.declared.outcome.verdict.Outcome.{Outcome}
use Rattle.obligations.specs.outcome.Report.{knows_pairs}
use Rattle.edbf_unfold.specs.class_queries.Enables.{both_of}
use Rattle.event_nodes.specs.View.{EventCircuitView}
use Rattle.event_settles.specs.Cares.{CareFitsUnder}
use Rattle.event_settles.specs.declared.cares.PairCare.{PairCare}
use Rattle.event_setup.specs.event_meaning.event_names.event_fits.Circuits.{AreReached}
use Rattle.event_setup.specs.event_meaning.event_meaning_under.Answered.{ComparedInEventsUnder}
use Rattle.event_setup.specs.event_meaning.event_meaning_under.CompareError.{CompareError}
use Rattle.event_setup.specs.event_meaning.event_meaning_under.Taken.{assumed_by}
use Rattle.event_setup.specs.event_meaning.event_meaning_under.Met.{IsMet}
use Rattle.event_check.specs.declared.event_answers.outcomes.Settled.{Settled}

-- The pairs are asked about under C, in order, over both circuits as they are cut and with their classes: these are their cares.
pub record HaveCaresUnder (a b c : NetView) (settings : Settings) (o : Outcome) (cares : List PairCare) : Type 0 where
  pub known : knows_pairs o.verdict ≡ true
  pub met : IsMet a b c
  pub left : EventCircuitView
  pub right : EventCircuitView
  pub reached : AreReached a b settings.expose o.exposed left right
  pub reads : ReadsInputs (assumed_by met.assumed) (circuit_of left.net) left.order
  pub classes : HasClasses (both_of left right)
  pub pairs : List SignalPair
  pub listed : map places_of pairs ≡ named_pairs o.exposed (circuit_of a) (circuit_of b)
  pub each : AllZip (CareFitsUnder (assumed_by met.assumed) (both_of left right) settings.conflicts) pairs cares

-- no pair is asked about, or these are the cares of all
abbrev pub CaresFitUnder : NetView → NetView → NetView → Settings → Outcome → List PairCare → Type 0
CaresFitUnder a b c settings o cares = ((knows_pairs o.verdict ≡ false) × (cares ≡ [])) ⊎ HaveCaresUnder a b c settings o cares

-- the answer of a comparison, and where it is asked for the cares of its pairs
abbrev pub SettlesInEventsUnder : Bool → NetView → NetView → NetView → Settings → Result Settled CompareError → Type 0
SettlesInEventsUnder settles a b c settings (Ok s) = ComparedInEventsUnder a b c settings (Ok s.outcome) × (settles ≡ true → CaresFitUnder a b c settings s.outcome s.cares)
SettlesInEventsUnder settles a b c settings (Err error) = ComparedInEventsUnder a b c settings (Err error)
