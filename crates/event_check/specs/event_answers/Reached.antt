-- How far a comparison in the event form comes before its pairs.
use Rattle.std.specs.Prelude.{◌≡◌, ◌⊎◌, ℕ, List, [], map, Result, Ok, Err}
use Rattle.flat_net.specs.View.{NetView, circuit_of}
use Rattle.sec_setup.specs.ports.Pairs.{named_pairs, places_of}
use Rattle.sec_base.specs.declared.settings.Settings.{Settings}
use Rattle.sec_setup.specs.Cuts.{columns_of, is_cut}
use Rattle.obligations.specs.declared.outcome.verdict.LimitAt.{LimitAt}
use Rattle.obligations.specs.declared.outcome.verdict.Outcome.{Outcome}
use Rattle.obligations.specs.declared.outcome.verdict.Verdict.TheVariants as verdict
use Rattle.event_comparison.specs.class_events.Made.{AreEnablesCounted}
use Rattle.event_comparison.specs.class_events.Separated.{AreSeparated}
use Rattle.plain_check.specs.declared.under_base.compare_base.error.CompareError.{CompareError}
use Rattle.event_setup.specs.event_meaning.event_names.event_fits.Circuits.{AreReached}
use Rattle.event_setup.specs.event_meaning.event_names.event_fits.Compared.{ComparedInEvents}
use Rattle.event_setup.specs.event_meaning.event_names.event_fits.Fitting.{IsUnclassed, IsUnrecovered}
use Rattle.event_check.specs.event_answers.Askable.{AreAskable}
use Rattle.event_check.specs.declared.event_answers.reaching.Classed.{Classed}
use Rattle.event_check.specs.declared.event_answers.reaching.Reached.{Reached}
use Rattle.event_check.specs.declared.event_answers.reaching.Reached.TheVariants as reached

-- The circuits are reached, with the latches of these names exposed, and have their class map. Their pairs, which can be asked about, are all that are
-- to be compared, and the columns are the names of the shared inputs and of the exposed latches.
pub record AreClassed (a b : NetView) (settings : Settings) (x : Classed) : Type 0 where
  pub reached : AreReached a b settings.expose x.exposed x.separated.events.left x.separated.events.right
  pub counted : AreEnablesCounted x.separated.events
  pub separated : AreSeparated x.separated.events x.separated.aparts.items
  pub askable : AreAskable x.separated.events x.names x.asked
  pub listed : map places_of x.asked.pairs ≡ named_pairs x.exposed (circuit_of a) (circuit_of b)
  pub columns : x.names.columns ≡ columns_of a b x.exposed
  pub cut : x.asked.cut ≡ is_cut x.exposed

-- The limit is that of a latch's own enable, or of a class: so is each outcome that tells it, with these latches exposed, no class and no pair.
abbrev pub StopsAtLimit : NetView → NetView → Settings → List (List ℕ) → LimitAt → Type 0
StopsAtLimit a b settings exposed at = (o : Outcome) → o.exposed ≡ exposed → o.classes ≡ 0 → o.pairs ≡ [] → o.verdict ≡ verdict.Limit at → IsUnrecovered a b settings.conflicts o ⊎ IsUnclassed a b settings.expose settings.conflicts o

-- how far it comes, or what a comparison refuses there
abbrev pub ReachesPairs : NetView → NetView → Settings → Result Reached CompareError → Type 0
ReachesPairs a b settings (Ok (reached.Pairs x)) = AreClassed a b settings x
ReachesPairs a b settings (Ok (reached.Limit exposed at)) = StopsAtLimit a b settings exposed at
ReachesPairs a b settings (Err error) = ComparedInEvents a b settings (Err error)
