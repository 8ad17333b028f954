-- What is found of the pairs of two circuits, by what is counted of them.
use Rattle.std.proofs.Common.{◌≡◌, ◌∙◌, ◌≤◌, List, length, refl, sym, Err}
use Rattle.circuit_theory.proofs.Lists.{length-map}
use Rattle.flat_net.specs.View.{circuit_of, named}
use Rattle.sec_setup.specs.declared.ports.pairs.SignalPair.{SignalPair}
use Rattle.event_comparison.specs.class_events.Made.{AreEnablesCounted}
use Rattle.edbf_unfold.specs.class_queries.Laws.{AreKept}
use Rattle.event_form.specs.event_agreement.pair_events.View.{EventsView, IsEvents}
use Rattle.event_form.specs.event_agreement.pair_events.Within.{IsCountedOnce}
use Rattle.event_form.specs.Stopped.{IsStoppedFor}
use Rattle.event_comparison.specs.Counted.{ArePairsCounted}
use Rattle.event_setup.specs.event_meaning.event_names.EventFormError.{EventFormError}
use Rattle.event_setup.specs.event_meaning.event_names.EventFormError.TheVariants as form_error
use Rattle.event_setup.proofs.event_meaning.event_names.event_fits.Counting.{count_is, map_made, pairs_within, refused_large, refused_many}
use Rattle.event_check.specs.event_answers.Finding.{AreNotUnfolded, AreUnfolded, refusal_of}

-- the inputs of a circuit have one number each
pub long : (e : EventsView) → AreKept e.left e.right e.events → length e.left.order ≡ length (circuit_of e.left.net).inputs
long e kept = kept.left.each_order ∙ sym (length-map named e.left.net.inputs)

module _ (e : EventsView) (is : IsEvents e) (k : AreEnablesCounted e) (few : e.count ≤ 500) (pairs : List SignalPair) where
  -- pairs that are counted are unfolded within their numbers
  pub unfolded : (f : EventsView) → ArePairsCounted pairs e f → AreKept f.left f.right f.events → IsCountedOnce f → AreUnfolded e.left e.right pairs f.count
  unfolded f counted later_kept once = record {
    made = map_made e is k few;
    classes_are = counted.later.count ∙ sym (count_is e is k few);
    within = pairs_within e is k few f counted.later later_kept once counted.within pairs counted.counts;
  }

  -- or why they can't be unfolded
  pub not_unfolded : {Y : Type 0} (error : EventFormError) → IsStoppedFor {X = Y} pairs e (Err error) → AreNotUnfolded e.left e.right pairs (refusal_of error)
  not_unfolded form_error.TooManyEvents h = let stop = h.many refl in (map_made e is k few, refused_many e is k few pairs stop.0 stop.1 stop.2)
  not_unfolded (form_error.TooLarge side) h = let stop = h.large side refl in (map_made e is k few, refused_large e is k few pairs side stop.0 stop.1)
  not_unfolded form_error.NoMemory h = tt
