-- What comparing the pair asks for is met, and what is found fits.
use Rattle.std.proofs.Common.{◌≡◌, ◌≢◌, ℕ, ◌<◌, Bool, true, false, List, [], ◌∷◌, length, refl, sym, subst, arith, inl, inr}
use Rattle.std.specs.Prelude.{codes}
use Rattle.std.proofs.lemmas.List.Elements.{All-from_recursion}
use Rattle.std.proofs.lemmas.Option.{same_Some}
use Rattle.circuit_theory.specs.Fits.{MakesDiffer}
use Rattle.circuit_theory.specs.Joined.{Left, Right}
use Rattle.circuit_theory.specs.Tree.{AreNumbered, IsInputNumber}
use Rattle.circuit_laws.proofs.LawProofs.{numbers_are_shared}
use Rattle.flat_net.specs.View.{circuit_of}
use Rattle.sec_base.specs.declared.basics.PairAnswer.TheVariants as answer
use Rattle.sec_setup.specs.declared.ports.pairs.SignalPair.{SignalPair}
use Rattle.witness_report.specs.declared.witness.PairName.TheVariants as pair
use Rattle.witness_report.specs.declared.witness.Witness.{Witness}
use Rattle.event_nodes.specs.Nodes.{GrowsEvents}
use Rattle.event_nodes.specs.View.{Enabled}
use Rattle.event_nodes.specs.aig.Values.{value, lit_bit, node_bits, bits_from}
use Rattle.pair_decide.specs.declared.query.Query.{Query}
use Rattle.pair_decide.specs.Queries.{assigned_to}
use Rattle.obligations.specs.declared.outcome.verdict.PairResult.{PairResult}
use Rattle.obligations.specs.Decided.{IsFirstOf}
use Rattle.event_setup.proofs.event_meaning.event_meaning_under.Bare.{bare_kept}
use Rattle.event_form.specs.Asked.{IsPairOf}
use Rattle.event_form.specs.declared.event_findings.verdict.EventVerdict.TheVariants as verdict
use Rattle.event_form.specs.event_agreement.pair_events.View.{IsEvents, IsWithinLimits}
use Rattle.event_form.specs.event_findings.Compared.{AreCompared}
use Rattle.event_form.specs.event_findings.Findings.{FindingsFit, IsSequenceOf}
use Rattle.event_form.specs.event_findings.event_witness.Sequences.{HasInputsBelow, rows_at}
use Rattle.event_form.specs.event_findings.unshown_pairs.class_events.Separated.{AreSeparated}
use Rattle.event_form.proofs.event_findings.event_witness.Differing.{always_differences}
use Rattle.event_form.proofs.event_findings.event_witness.Growing.{differences_later}
use Rattle.event_form.proofs.event_findings.event_witness.Showing.{differences_shown}
use Rattle.event_form.proofs.event_findings.unshown_pairs.class_events.Begin.{begins}
use Rattle.event_form.proofs.event_findings.unshown_pairs.class_events.Telling.{separated_stay}
use Rattle.premise_rows.specs.event_outcome_samples.Different.{shows_a, shows_b, a_events, b_events, y_pair, y_result}
use Rattle.premise_rows.specs.event_pair_premises.Comparable.{at_first, y_compared, y_cut, y_difference, CanBeCompared, PairCanBeCompared}
use Rattle.premise_rows.specs.event_pair_premises.Differing.{two_inputs, at_root, with_and, a_and_b, a_alone, y_asked, y_not_shown}
use Rattle.premise_rows.proofs.event_outcome_samples.Nets.{both_names, left_sound, right_sound}
use Rattle.premise_rows.proofs.event_outcome_samples.Sides.{always, both, left_ready, made, names, no_both, numbers, right_ready, shallow}
use Rattle.premise_rows.proofs.event_pair_premises.Differing.{root_kept, grows, kept, found, asked, meet_premises}

events : IsEvents at_first
events = record { classes = made.map; number = refl; depths = λ name u next latch. absurd (no_both name u next latch); left_depths = left_ready.depths; right_depths = right_ready.depths }

numbered : AreNumbered (circuit_of shows_a) (circuit_of shows_b) a_events.order b_events.order
numbered = numbers_are_shared (circuit_of shows_a) (circuit_of shows_b) names a_events.order b_events.order numbers numbers

-- each number is below 2
a_below : (q i : ℕ) → IsInputNumber (circuit_of shows_a) a_events.order q i → i < 2
a_below q i (inl h) = omega (arith, h.1)
a_below q i (inr (inl h)) = omega (arith, h.1)
a_below q i (inr (inr h)) = absurd h

b_below : (q i : ℕ) → IsInputNumber (circuit_of shows_b) b_events.order q i → i < 2
b_below q i (inl h) = omega (arith, h.1)
b_below q i (inr (inl h)) = omega (arith, h.1)
b_below q i (inr (inr h)) = absurd h

left_named : HasInputsBelow (circuit_of shows_a) a_events.order 2 0
left_named q k i visits h = a_below q i h

right_named : HasInputsBelow (circuit_of shows_b) b_events.order 2 1
right_named q k i visits h = b_below q i h

compared : AreCompared a_events b_events y_compared
compared = record {
  depths_are = (record { left = 0; right = 0; left_is = shallow (circuit_of shows_a) refl (Enabled a_events) 0; right_is = shallow (circuit_of shows_b) refl (Enabled b_events) 1; greater = refl }, tt);
  numbers = numbered;
  left_named = All-from_recursion (λ (p : SignalPair). HasInputsBelow (circuit_of shows_a) a_events.order 2 p.left.0) (y_pair ∷ []) (left_named, tt);
  right_named = All-from_recursion (λ (p : SignalPair). HasInputsBelow (circuit_of shows_b) b_events.order 2 p.right.0) (y_pair ∷ []) (right_named, tt);
  distinct = both_names;
}

within : IsWithinLimits at_first
within = record { starts = record { left = []; right = []; counted = begins at_first refl refl refl }; left = record { sum = refl; small = omega arith; few = omega arith }; right = record { sum = refl; small = omega arith; few = omega arith }; nodes = omega arith }

first : CanBeCompared at_first y_compared
first = record {
  kept = record { left_sound = left_sound; right_sound = right_sound; left = left_ready.marked; right = right_ready.marked; events = bare_kept };
  events = events;
  pairs = All-from_recursion (IsPairOf at_first) (y_pair ∷ []) (record { left = omega arith; right = omega arith }, tt);
  compared = compared;
  within = within;
}

separated : AreSeparated at_first []
separated = record { few = omega arith; names = All-from_recursion _ [] tt; classes = made.map; apart = record { long = refl; each = λ low high less most. absurd (omega (arith, less, most)) } }

first_grows : GrowsEvents at_first.events at_root
first_grows = record { graph = (_, refl); children = ([], refl); places = (_, refl) }

differs : IsFirstOf two_inputs (y_asked true ∷ []) answer.Different (y_result ∷ []) y_difference
differs = record { obligation = y_asked true; result = y_result; asked_at = refl; result_at = refl; answered = refl; earlier = λ i r l h. absurd (omega (arith, l)); differs = found }

makes_differ : MakesDiffer (circuit_of shows_a) (circuit_of shows_b) a_events.order b_events.order 0 1 ((true ∷ false ∷ []) ∷ []) 0 true false
unfolding value node_bits bits_from lit_bit
makes_differ =
    let so =
    always_differences a_events b_events at_root false y_pair (y_asked true) 0 2 0 0 a_alone kept made.map (λ name u next latch. absurd (no_both name u next latch)) numbered left_named right_named asked (always (Left 0)) (always (Right 1)) found
    (shallow (circuit_of shows_a) refl (Enabled a_events) 0) (shallow (circuit_of shows_b) refl (Enabled b_events) 1) in
    subst
    (λ (q : Query). MakesDiffer (circuit_of shows_a) (circuit_of shows_b) a_events.order b_events.order 0 1 (rows_at at_root q a_alone 0 2) 0 (value two_inputs (assigned_to q.vars a_alone) q.left.0) (value two_inputs (assigned_to q.vars a_alone) q.right.0))
    (sym (same_Some a_and_b so.0 so.1)) so.2

abbrev sequence : Witness
sequence = record {
  pair = pair.Output (codes "y");
  cycle = 0;
  left = true;
  right = false;
  stimulus = record { names = names; rows = (true ∷ false ∷ []) ∷ []; distinct = both_names; fit = All-from_recursion (λ (row : List Bool). length row ≡ 2) ((true ∷ false ∷ []) ∷ []) (refl, tt) };
}

sequence_is : IsSequenceOf a_events b_events names y_pair sequence
unfolding value node_bits bits_from lit_bit
sequence_is = record {
  asked = meet_premises.least.asked;
  variables = record { input = 0; at = [] } ∷ record { input = 1; at = [] } ∷ [];
  bits = a_alone;
  difference = meet_premises.least.differs;
  left_value = sym meet_premises.least.left;
  right_value = sym meet_premises.least.right;
  cycle_is = record { left = 0; right = 0; left_is = shallow (circuit_of shows_a) refl (Enabled a_events) 0; right_is = shallow (circuit_of shows_b) refl (Enabled b_events) 1; greater = refl };
  names_are = refl;
  rows_are = refl;
  differ = makes_differ;
}

fits : (conflicts : ℕ) → FindingsFit a_events b_events y_compared conflicts (record { pairs = y_result ∷ []; verdict = verdict.Different sequence })
fits conflicts = record {
  pairs_fit = (meet_premises.fits conflicts, tt);
  verdict_is = record {
    index = 0;
    place = y_pair;
    first = record { result = y_result; pair_at = refl; result_at = refl; answered = refl; earlier = λ i r l. absurd (omega (arith, l)) };
    named = refl;
    sequence = sequence_is;
  };
}

not_different : answer.NotShown ≢ answer.Different
not_different e = cc

not_limit : answer.NotShown ≢ answer.Limit
not_limit e = cc

fits_cut : (conflicts : ℕ) → FindingsFit a_events b_events y_cut conflicts (record { pairs = y_not_shown ∷ []; verdict = verdict.Cut sequence })
fits_cut conflicts = record {
  pairs_fit = (meet_premises.fits_cut conflicts, tt);
  verdict_is = (
    All-from_recursion (λ (r : PairResult). r.answer ≢ answer.Different) (y_not_shown ∷ []) (not_different, tt),
    All-from_recursion (λ (r : PairResult). r.answer ≢ answer.Limit) (y_not_shown ∷ []) (not_limit, tt),
    record {
      index = 0;
      place = y_pair;
      first = record { result = y_not_shown; pair_at = refl; result_at = refl; answered = refl; earlier = λ i r l. absurd (omega (arith, l)) };
      cut = refl;
      always = (always (Left 0), always (Right 1));
      named = refl;
      sequence = sequence_is;
    },
  );
}

pub can_be_compared : PairCanBeCompared
can_be_compared = record {
  first = first;
  separated = separated;
  counted = begins at_first refl refl refl;
  grows = first_grows;
  separated_later = separated_stay at_first (record at_first { events = at_root }) [] bare_kept refl refl refl first_grows separated;
  differs = differs;
  showable = differences_shown both at_root false (y_pair ∷ []) (y_asked true ∷ []) answer.Different (y_result ∷ []) y_difference root_kept (asked, tt) differs;
  differs_later = differences_later both at_root with_and false (y_pair ∷ []) (y_asked true ∷ []) answer.Different (y_result ∷ []) y_difference root_kept grows (asked, tt) differs;
  makes_differ = makes_differ;
  found = (sequence, record { pair_is = refl; cycle_is = refl; left_is = refl; right_is = refl; names_are = refl; rows_are = refl }, fits);
  first_cut = record { kept = first.kept; events = first.events; pairs = first.pairs; compared = record { depths_are = first.compared.depths_are; numbers = numbered; left_named = first.compared.left_named; right_named = first.compared.right_named; distinct = both_names }; within = first.within };
  found_cut = (sequence, record { pair_is = refl; cycle_is = refl; left_is = refl; right_is = refl; names_are = refl; rows_are = refl }, fits_cut);
}
