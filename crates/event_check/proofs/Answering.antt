-- From what is found of both circuits to the answer of a comparison.
use Rattle.std.proofs.Common.{◌≡◌, ◌∙◌, ℕ, Bool, true, List, [], map, None, Err, refl, sym, ap, subst, inl, inr}
use Rattle.std.specs.Prelude.{◌⊎◌}
use Rattle.flat_net.specs.Comparable.{IsComparable}
use Rattle.flat_net.specs.Sound.{IsSound}
use Rattle.flat_net.specs.View.{NetView}
use Rattle.sec_setup.specs.declared.ports.pairs.SignalPair.{SignalPair}
use Rattle.sec_setup.specs.ports.Pairs.{places_of}
use Rattle.sec_base.specs.declared.settings.Settings.{Settings}
use Rattle.obligations.specs.declared.outcome.verdict.LimitAt.{LimitAt}
use Rattle.obligations.specs.declared.outcome.verdict.Outcome.{Outcome}
use Rattle.sec_setup.specs.Matching.{InterfacesMatch, InterfaceFails as NoMatch}
use Rattle.sec_setup.specs.declared.error.SetupError.{SetupError}
use Rattle.sec_setup.specs.declared.error.SetupError.TheVariants as unset
use Rattle.plain_check.specs.under_base.compare_base.Compared.{refusal_of}
use Rattle.event_nodes.specs.View.{EventCircuitView}
use Rattle.event_setup.specs.event_meaning.event_names.event_fits.Circuits.{AreNets}
use Rattle.event_setup.specs.event_meaning.event_names.event_fits.Compared.{ComparedInEvents, IsComparedInEvents}
use Rattle.event_setup.specs.event_meaning.event_names.event_fits.Fitting.{EventOutcomeFits, HasCounts, IsComparedByPairs, IsUnclassed, IsUnrecovered}
use Rattle.event_check.specs.event_answers.Reached.{AreClassed, StopsAtLimit}
use Rattle.event_setup.specs.event_meaning.event_names.event_fits.Totals.{IsWithinWith}
use Rattle.event_check.specs.declared.event_answers.outcomes.Found.{Found}
use Rattle.event_check.specs.declared.event_answers.reaching.Classed.{Classed}
use Rattle.event_check.proofs.event_answers.Told.{limit_at, named, outcome_by}
use Rattle.event_setup.proofs.event_meaning.Saying.{cut_outcomes, different_outcomes, equal_outcomes}
use Rattle.event_setup.proofs.event_meaning.Framing.{unshown_outcomes}
use Rattle.event_check.specs.Pairs.{ArePairsFound}
use Rattle.event_check.specs.event_answers.Settles.{CaresFit}
use Rattle.event_check.proofs.event_answers.Told.{known_pairs, unknown_pairs}

-- the interfaces don't match
pub unmatched : (a b : NetView) (settings : Settings) (e : SetupError) → NoMatch a b e → ComparedInEvents a b settings (Err (refusal_of e))
unmatched a b settings (unset.Interface name) h = h
unmatched a b settings (unset.Cyclic side names) h = absurd h
unmatched a b settings (unset.Unpaired side names) h = absurd h
unmatched a b settings unset.NoMemory h = tt

module _ (a b : NetView) (settings : Settings) (sa : IsSound a) (sb : IsSound b) (ca : IsComparable a) (cb : IsComparable b) (matches : InterfacesMatch a b) where
  nets : AreNets a b
  nets = record { left = sa; right = sb; left_distinct = ca.distinct; right_distinct = cb.distinct }

  counts : (exposed : List (List ℕ)) (f : Found) → HasCounts a b (outcome_by a b None exposed f)
  counts exposed f = record { inputs = refl; left_latches = refl; right_latches = refl; assumed = refl; through = refl }

  -- an outcome that fits says what it says
  fits_is_compared : (o : Outcome) → EventOutcomeFits a b settings.expose settings.conflicts o → IsComparedInEvents a b settings o
  fits_is_compared o fits = record {
    left_sound = sa;
    right_sound = sb;
    matches = matches;
    fits = fits;
    equal = λ e. equal_outcomes a b settings.expose settings.conflicts o nets fits e;
    different = λ w e. different_outcomes a b settings.expose settings.conflicts o nets fits w e;
    not_shown = λ w e. cut_outcomes a b settings.expose settings.conflicts o nets fits w e;
    unshown = λ u e. unshown_outcomes a b settings.expose settings.conflicts o fits u e;
  }

  -- the limit of an enable or of a class
  rest : (o : Outcome) → IsUnrecovered a b settings.conflicts o ⊎ IsUnclassed a b settings.expose settings.conflicts o →
      IsUnrecovered a b settings.conflicts o ⊎ (IsUnclassed a b settings.expose settings.conflicts o ⊎ IsComparedByPairs a b settings.expose settings.conflicts o)
  rest o (inl k) = inl k
  rest o (inr k) = inr (inl k)

  pub limit_compared : (exposed : List (List ℕ)) (at : LimitAt) → StopsAtLimit a b settings exposed at → IsComparedInEvents a b settings (outcome_by a b None exposed (limit_at at))
  limit_compared exposed at stops =
      fits_is_compared (outcome_by a b None exposed (limit_at at))
      (record { counts = counts exposed (limit_at at); rest = rest (outcome_by a b None exposed (limit_at at)) (stops (outcome_by a b None exposed (limit_at at)) refl refl refl refl) })

  -- where no pair is asked about there are none
  pub no_cares : (exposed : List (List ℕ)) (at : LimitAt) → StopsAtLimit a b settings exposed at → CaresFit a b settings (outcome_by a b None exposed (limit_at at)) []
  no_cares exposed at stops = inl (unknown_pairs a b settings (outcome_by a b None exposed (limit_at at)) (stops (outcome_by a b None exposed (limit_at at)) refl refl refl refl), refl)

  -- what is found of the pairs is the outcome
  module _ (x : Classed) (is : AreClassed a b settings x) where
    abbrev left : EventCircuitView
    left = x.separated.events.left

    abbrev right : EventCircuitView
    right = x.separated.events.right

    pub pairs_compared : (settles : Bool) (f : Found) → ArePairsFound left right x.names x.asked settings.conflicts settles f → IsComparedInEvents a b settings (outcome_by a b None x.exposed f)
    pairs_compared settles f k = fits_is_compared (outcome_by a b None x.exposed f) (record {
      counts = counts x.exposed f;
      rest = inr (inr (record {
        left = left;
        right = right;
        reached = is.reached;
        made = k.unfolded.made;
        classes = k.unfolded.classes_are;
        compared = k.compared;
        listed = ap (map places_of) k.asked.0 ∙ is.listed;
        names = k.asked.2 ∙ is.columns;
        cut = k.asked.3 ∙ is.cut;
        within = subst (λ (ps : List SignalPair). IsWithinWith left right k.unfolded.made ps ps) (sym k.asked.0) k.unfolded.within;
        found = k.found;
        fits = k.fits;
        pairs = k.pairs;
        verdict_is = named a b settings x is k.found f.verdict k.verdict_is;
      }));
    })

    -- and what is found of their cares is that of the outcome
    pub cares_found : (settles : Bool) (f : Found) → ArePairsFound left right x.names x.asked settings.conflicts settles f → settles ≡ true → CaresFit a b settings (outcome_by a b None x.exposed f) f.cares
    cares_found settles f k asks = inr (record {
      known = known_pairs x.names.left x.names.right x.names.columns k.found.verdict f.verdict k.verdict_is;
      left = left;
      right = right;
      reached = is.reached;
      classes = is.counted.classes;
      pairs = x.asked.pairs;
      listed = is.listed;
      each = k.cares asks;
    })
