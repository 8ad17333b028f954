-- Why circuits aren't compared under an assumption.
use Rattle.std.proofs.Common.{◌≡◌, ℕ, Bool, subst, inl, inr, Err}
use Rattle.flat_net.specs.View.{NetView}
use Rattle.sec_base.specs.declared.settings.Settings.{Settings}
use Rattle.sec_setup.specs.declared.error.SetupError.{SetupError}
use Rattle.sec_setup.specs.declared.error.SetupError.TheVariants as unset
use Rattle.sec_setup.specs.Matching.{InterfacesMatch, InterfaceFails as NoMatch}
use Rattle.assume_queries.specs.declared.assume_sequences.premise.Premise.{Premise}
use Rattle.assume_laws.specs.declared.assume_shape.shape.ShapeFault.{ShapeFault}
use Rattle.assume_laws.specs.declared.assume_shape.shape.ShapeFault.TheVariants as shape_fault
use Rattle.assume_queries.specs.declared.assume_sequences.assume_taken.error.TakeError.{TakeError}
use Rattle.assume_queries.specs.declared.assume_sequences.assume_taken.error.TakeError.TheVariants as untaken
use Rattle.assume_queries.specs.assume_sequences.assume_taken.Premises.{IsTaken}
use Rattle.edbf_unfold.specs.class_queries.Enables.{both_of}
use Rattle.event_setup.specs.event_meaning.event_meaning_under.CompareError.{CompareError}
use Rattle.event_setup.specs.event_meaning.event_meaning_under.CompareError.TheVariants as refused
use Rattle.plain_check.specs.under_base.compare_base.Compared.{refusal_of as refusal_of_setup}
use Rattle.event_under.specs.Places.{IsOverAtNodes}
use Rattle.event_setup.specs.event_meaning.event_meaning_under.Met.{shared_by, IsMet}
use Rattle.plain_check.specs.under_base.Refusals.{refusal_of}
use Rattle.event_setup.specs.event_meaning.event_names.event_fits.Compared.{ComparedInEvents}
use Rattle.event_check.specs.event_answers.Reached.{AreClassed}
use Rattle.event_check.specs.declared.event_answers.reaching.Classed.{Classed}
use Rattle.event_check.proofs.event_answers.Refusals.{pairs_refused}
use Rattle.event_setup.specs.event_meaning.event_meaning_under.Answered.{ComparedInEventsUnder}
use Rattle.event_check.specs.event_check_under.event_answers_under.Pairs.{FindsPairsUnder, IsTooLargeFor}

-- the interfaces don't match
pub unmatched_under : (a b c : NetView) (settings : Settings) (e : SetupError) → NoMatch a b e → ComparedInEventsUnder a b c settings (Err (refusal_of_setup e))
unmatched_under a b c settings (unset.Interface name) h = h
unmatched_under a b c settings (unset.Cyclic side names) h = absurd h
unmatched_under a b c settings (unset.Unpaired side names) h = absurd h
unmatched_under a b c settings unset.NoMemory h = tt

-- the third circuit isn't taken
pub untaken_under : (a b c : NetView) (settings : Settings) (e : TakeError) → InterfacesMatch a b → IsTaken (shared_by a b) c settings.conflicts (Err e) → ComparedInEventsUnder a b c settings (Err (refusal_of e))
untaken_under a b c settings (untaken.Fault fault) matches h = (matches, inl h)
untaken_under a b c settings (untaken.Vacuous by) matches h = (matches, h)
untaken_under a b c settings untaken.NoMemory matches h = tt

-- what is refused without the assumption is refused under it
pub refused_under : (a b c : NetView) (settings : Settings) (e : CompareError) → IsMet a b c → ComparedInEvents a b settings (Err e) → ComparedInEventsUnder a b c settings (Err e)
refused_under a b c settings (refused.Interface name) met h = h
refused_under a b c settings (refused.Cyclic side names) met h = (met, h)
refused_under a b c settings (refused.Unpaired side names) met h = (met, h)
refused_under a b c settings (refused.TooLarge side) met h = (met, h)
refused_under a b c settings refused.TooManyEvents met h = (met, h)
refused_under a b c settings (refused.Assume fault) met h = absurd h
refused_under a b c settings (refused.Vacuous by) met h = absurd h
refused_under a b c settings refused.NoMemory met h = tt

-- the pairs can't be unfolded, or are too many for the assumption
module _ (a b c : NetView) (settings : Settings) (met : IsMet a b c) (x : Classed) (is : AreClassed a b settings x) (p : Premise) (weight : p.weight ≡ met.assumed.weight) where
  too_large : (fault : ShapeFault) → IsTooLargeFor x.separated.events.left x.separated.events.right x.asked p fault → ComparedInEventsUnder a b c settings (Err (refused.Assume fault))
  too_large (shape_fault.Latch name) h = absurd h
  too_large (shape_fault.Outputs count) h = absurd h
  too_large (shape_fault.Input name) h = absurd h
  too_large shape_fault.TooLarge h = (
    met.matches,
    inr (
      met,
      record {
        names = x.exposed;
        left = x.separated.events.left;
        right = x.separated.events.right;
        reached = is.reached;
        made = h.0;
        pairs = x.asked.pairs;
        listed = is.listed;
        stops = (h.1.0, subst (λ (w : ℕ). IsOverAtNodes w (both_of x.separated.events.left x.separated.events.right) x.asked.pairs) weight h.1.1);
      },
    ),
  )

  pub pairs_refused_under : (conflicts : ℕ) (settles : Bool) (e : CompareError) → FindsPairsUnder x.separated.events.left x.separated.events.right x.names x.asked p conflicts settles (Err e) → ComparedInEventsUnder a b c settings (Err e)
  pairs_refused_under conflicts settles (refused.Interface name) h = absurd h
  pairs_refused_under conflicts settles (refused.Cyclic side names) h = absurd h
  pairs_refused_under conflicts settles (refused.Unpaired side names) h = absurd h
  pairs_refused_under conflicts settles (refused.TooLarge side) h = (met, pairs_refused a b settings met.matches x.exposed x.separated.events.left x.separated.events.right is.reached x.asked.pairs is.listed (refused.TooLarge side) h)
  pairs_refused_under conflicts settles refused.TooManyEvents h = (met, pairs_refused a b settings met.matches x.exposed x.separated.events.left x.separated.events.right is.reached x.asked.pairs is.listed refused.TooManyEvents h)
  pairs_refused_under conflicts settles (refused.Assume fault) h = too_large fault h
  pairs_refused_under conflicts settles (refused.Vacuous by) h = absurd h
  pairs_refused_under conflicts settles refused.NoMemory h = tt
