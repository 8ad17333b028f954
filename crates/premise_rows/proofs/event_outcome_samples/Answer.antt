-- What the comparison answers.
use Rattle.std.proofs.Common.{◌≡◌, ℕ, Bool, true, false, List, [], ◌∷◌, length, refl, subst, arith, inr}
use Rattle.std.specs.Prelude.{Ok, codes}
use Rattle.std.specs.List.{Contains}
use Rattle.std.proofs.lemmas.List.Elements.{All-nil, All-cons}
use Rattle.circuit_theory.proofs.Lists.{only}
use Rattle.circuit_theory.specs.Fits.{MakesDiffer}
use Rattle.circuit_theory.specs.Joined.{Left, Right}
use Rattle.circuit_laws.proofs.LawProofs.{numbers_are_shared}
use Rattle.flat_net.specs.View.{circuit_of}
use Rattle.sec_base.specs.declared.settings.Settings.{Settings}
use Rattle.witness_report.specs.declared.witness.PairName.TheVariants as pair
use Rattle.witness_report.specs.declared.witness.Witness.{Witness}
use Rattle.event_nodes.specs.View.{Enabled}
use Rattle.event_under.specs.event_shown_under.event_under_fits.event_findings.EventFindings.{EventFindings}
use Rattle.event_setup.specs.event_meaning.event_meaning_under.EventPairs.{EventPairs}
use Rattle.event_setup.specs.event_meaning.EventVerdict.TheVariants as found
use Rattle.assume_laws.proofs.Reading.{numbers_read}
use Rattle.assume_laws.specs.Assume.{ReadsInputs}
use Rattle.assume_laws.specs.Sequences.{RowsMeet}
use Rattle.event_under.specs.Answers.{PairFitsUnder}
use Rattle.event_under.specs.Places.{IsLightAtNodes}
use Rattle.event_under.proofs.Sequences.{always_show}
use Rattle.event_setup.specs.event_meaning.event_meaning_under.Findings.{FindingsFitUnder, IsSequenceUnder}
use Rattle.event_setup.specs.event_meaning.event_meaning_under.Answered.{ComparedInEventsUnder}
use Rattle.event_setup.specs.event_meaning.event_meaning_under.Fitted.{EventOutcomeFitsUnder}
use Rattle.event_setup.proofs.event_meaning.event_meaning_under.Bare.{bare, bare_kept}
use Rattle.event_setup.proofs.event_meaning.event_meaning_under.Saying.{cut_outcomes, different_outcomes, equal_outcomes}
use Rattle.event_setup.proofs.event_meaning.event_meaning_under.Framing.{unshown_outcomes}
use Rattle.premise_rows.specs.event_outcome_samples.Different.{shows_a, shows_b, b_is_one, a_events, b_events, y_pair, y_result, y_outcome, IsAnswered}
use Rattle.premise_rows.proofs.event_outcome_samples.Nets.{both_names, left_sound, nets, right_sound}
use Rattle.premise_rows.proofs.event_outcome_samples.Sides.{always, both, left_ready, made, names, no_both, numbers, reached, right_ready, shallow, size, within}
use Rattle.premise_rows.proofs.event_outcome_samples.Meeting.{b_among, b_assumed, is_assumption, met}
use Rattle.premise_rows.proofs.event_outcome_samples.Pair.{inputs_low, nodes_of_pair, pair_variables, y_difference, y_differs, y_query}

-- the sequence that is printed
abbrev pub y_sequence : Witness
y_sequence = record {
  pair = pair.Output (codes "y");
  cycle = 0;
  left = false;
  right = true;
  stimulus = record {
    names = names;
    rows = (false ∷ true ∷ []) ∷ [];
    distinct = both_names;
    fit = All-cons (λ (row : List Bool). length row ≡ 2) (false ∷ true ∷ []) [] refl (All-nil (λ (row : List Bool). length row ≡ 2));
  };
}

-- the assumption reads b
reads : ReadsInputs b_assumed (circuit_of shows_a) a_events.order
reads = numbers_read b_assumed 1 (circuit_of shows_a) names a_events.order b_events.order [] is_assumption met.assumed.numbers numbers (λ name h. subst (Contains names) (only (codes "b") name h) b_among) (λ name h. h)

shown : MakesDiffer (circuit_of shows_a) (circuit_of shows_b) a_events.order b_events.order 0 1 y_sequence.stimulus.rows 0 false true × RowsMeet b_assumed y_sequence.stimulus.rows 0
shown =
    always_show b_assumed a_events b_events bare 0 1 2 0 0 y_query pair_variables pair_variables (false ∷ true ∷ []) met.row
    (record { left_sound = left_sound; right_sound = right_sound; left = left_ready.marked; right = right_ready.marked; events = bare_kept }) made.map (λ name u next latch. absurd (no_both name u next latch))
    (numbers_are_shared (circuit_of shows_a) (circuit_of shows_b) names a_events.order b_events.order numbers numbers) y_difference
    inputs_low met.kept.meets
    (shallow (circuit_of shows_a) refl (Enabled a_events) 0) (shallow (circuit_of shows_b) refl (Enabled b_events) 1) (always (Left 0)) (always (Right 1))

sequence : IsSequenceUnder b_assumed a_events b_events names met.row y_pair y_sequence
sequence = record {
  asked = y_query;
  sides = pair_variables;
  variables = pair_variables;
  bits = false ∷ true ∷ [];
  difference = y_difference;
  left_value = refl;
  right_value = refl;
  cycle_is = record { left = 0; right = 0; left_is = shallow (circuit_of shows_a) refl (Enabled a_events) 0; right_is = shallow (circuit_of shows_b) refl (Enabled b_events) 1; greater = refl };
  names_are = refl;
  rows_are = refl;
  differ = shown.0;
  meets = shown.1;
}

abbrev compared : EventPairs
compared = record {
  pairs = record { ref_ptr = (0, 0); now = y_pair ∷ [] };
  depths = record { ref_ptr = (0, 0); now = 0 ∷ [] };
  names = record { ref_ptr = (0, 0); now = names };
  cut = false;
}

abbrev findings : EventFindings
findings = record { pairs = y_result ∷ []; verdict = found.Different y_sequence }

pair_fits : (conflicts : ℕ) → PairFitsUnder b_assumed both false conflicts y_pair y_result
pair_fits conflicts = record { name_is = refl; size_is = size; answer_is = ((refl, always (Left 0), always (Right 1)), y_differs) }

fits : (conflicts : ℕ) → FindingsFitUnder b_assumed a_events b_events met.row compared conflicts findings
fits conflicts = record {
  pairs_fit = (pair_fits conflicts, tt);
  verdict_is = record {
    index = 0;
    place = y_pair;
    first = record { result = y_result; pair_at = refl; result_at = refl; answered = refl; earlier = λ i r low. absurd (omega (arith, low)) };
    named = refl;
    sequence = sequence;
  };
}

light : IsLightAtNodes 1 both (y_pair ∷ [])
light = record { all = [] ∷ []; own = ([] ∷ []) ∷ []; nodes = nodes_of_pair; light = omega arith }

outcome_fits : (settings : Settings) → EventOutcomeFitsUnder b_assumed met.assumed.weight met.row shows_a shows_b settings.expose settings.conflicts (y_outcome y_sequence)
outcome_fits settings = record {
  counts = record { inputs = refl; left_latches = refl; right_latches = refl; through = refl };
  rest = inr (inr (record {
    left = a_events;
    right = b_events;
    reached = reached settings.expose;
    reads = reads;
    made = made;
    classes = refl;
    compared = compared;
    listed = refl;
    names = refl;
    cut = refl;
    within = within;
    light = light;
    found = findings;
    fits = fits settings.conflicts;
    pairs = refl;
    verdict_is = refl;
  }));
}

compared_so : (settings : Settings) → ComparedInEventsUnder shows_a shows_b b_is_one settings (Ok (y_outcome y_sequence))
compared_so settings =
    let whole = outcome_fits settings in
    inr (record {
      left_sound = left_sound;
      right_sound = right_sound;
      met = met;
      assumed = refl;
      fits = whole;
      equal = λ e. equal_outcomes b_assumed met.assumed.weight met.row shows_a shows_b settings.expose settings.conflicts (y_outcome y_sequence) nets whole e;
      different = λ w e. different_outcomes b_assumed met.assumed.weight met.row shows_a shows_b settings.expose settings.conflicts (y_outcome y_sequence) nets whole w e;
      not_shown = λ w e. cut_outcomes b_assumed met.assumed.weight met.row shows_a shows_b settings.expose settings.conflicts (y_outcome y_sequence) nets whole w e;
      unshown = λ u e. unshown_outcomes b_assumed met.assumed.weight met.row shows_a shows_b settings.expose settings.conflicts (y_outcome y_sequence) whole u e;
    })

pub answered : IsAnswered
answered = (y_sequence, record { pair_is = refl; cycle_is = refl; left_is = refl; right_is = refl; names_are = refl; rows_are = refl }, compared_so)
