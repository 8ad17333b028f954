-- What comparing the pair asks for is met, and what is found fits.
use Rattle.std.proofs.Common.{◌≢◌, [], ◌∷◌, refl, arith}
use Rattle.std.specs.Prelude.{codes}
use Rattle.std.proofs.lemmas.List.Elements.{All-from_recursion}
use Rattle.flat_net.specs.View.{circuit_of}
use Rattle.sec_base.specs.declared.basics.PairAnswer.TheVariants as answer
use Rattle.sec_setup.specs.declared.ports.pairs.SignalPair.{SignalPair}
use Rattle.witness_report.specs.declared.witness.PairName.TheVariants as pair
use Rattle.event_nodes.specs.View.{Enabled}
use Rattle.obligations.specs.declared.outcome.verdict.PairResult.{PairResult}
use Rattle.event_setup.proofs.event_meaning.event_meaning_under.Bare.{bare_kept}
use Rattle.event_form.proofs.event_findings.unshown_pairs.class_events.Begin.{begins}
use Rattle.event_form.specs.Asked.{IsPairOf}
use Rattle.event_form.specs.event_findings.Compared.{AreCompared}
use Rattle.event_form.specs.event_findings.Findings.{IsFirstLimit}
use Rattle.event_form.specs.event_findings.event_witness.Sequences.{HasInputsBelow}
use Rattle.event_form.specs.event_findings.unshown_pairs.class_events.Separated.{AreSeparated}
use Rattle.circuit_theory.specs.Classes.{HasClasses}
use Rattle.premise_rows.specs.event_limit_premises.AtLimit.{chosen_pair, chosen_result}
use Rattle.premise_rows.specs.event_limit_premises.Chosen.{both_chosen, chooses, shows}
use Rattle.premise_rows.specs.event_limit_premises.Found.{before_choice, chosen_compared, PairAtLimitCanBeCompared}
use Rattle.premise_rows.specs.event_pair_premises.Comparable.{CanBeCompared}
use Rattle.premise_rows.proofs.event_limit_premises.AtLimit.{kept, meets_premises}
use Rattle.premise_rows.proofs.event_limit_premises.ChosenNets.{both_none, left_circuit, left_none, own_number, right_circuit, right_none, shared}
use Rattle.premise_rows.proofs.event_limit_premises.Latchless.{no_classes, no_depth}
use Rattle.premise_rows.proofs.event_limit_premises.Numbers.{letters_distinct}

abbrev classes : HasClasses both_chosen
classes = no_classes both_chosen both_none refl

left_named : HasInputsBelow (circuit_of chooses.net) chooses.order 17 17
left_named q k i visits h = (own_number q i h).1

right_named : HasInputsBelow (circuit_of shows.net) shows.order 17 0
right_named q k i visits h = (own_number q i h).1

compared : AreCompared chooses shows chosen_compared
compared = record {
  depths_are = (record { left = 0; right = 0; left_is = no_depth left_circuit left_none (Enabled chooses) 17; right_is = no_depth right_circuit right_none (Enabled shows) 0; greater = refl }, tt);
  numbers = shared;
  left_named = All-from_recursion (λ (p : SignalPair). HasInputsBelow (circuit_of chooses.net) chooses.order 17 p.left.0) (chosen_pair ∷ []) (left_named, tt);
  right_named = All-from_recursion (λ (p : SignalPair). HasInputsBelow (circuit_of shows.net) shows.order 17 p.right.0) (chosen_pair ∷ []) (right_named, tt);
  distinct = letters_distinct;
}

first : CanBeCompared before_choice chosen_compared
first = record {
  kept = record { left_sound = kept.left_sound; right_sound = kept.right_sound; left = kept.left; right = kept.right; events = bare_kept };
  events = record {
    classes = classes;
    number = refl;
    depths = λ name u next latch. absurd (both_none name u next latch);
    left_depths = λ name u next latch. absurd (left_none name u next latch);
    right_depths = λ name u next latch. absurd (right_none name u next latch);
  };
  pairs = All-from_recursion (IsPairOf before_choice) (chosen_pair ∷ []) (record { left = omega arith; right = omega arith }, tt);
  compared = compared;
  within = record { starts = record { left = []; right = []; counted = begins before_choice refl refl refl }; left = record { sum = refl; small = omega arith; few = omega arith }; right = record { sum = refl; small = omega arith; few = omega arith }; nodes = omega arith };
}

separated : AreSeparated before_choice []
separated = record { few = omega arith; names = All-from_recursion _ [] tt; classes = classes; apart = record { long = refl; each = λ low high less most. absurd (omega (arith, less, most)) } }

first_limit : IsFirstLimit (chosen_pair ∷ []) (chosen_result ∷ []) (pair.Output (codes "y"))
first_limit = record { index = 0; place = chosen_pair; first = record { result = chosen_result; pair_at = refl; result_at = refl; answered = refl; earlier = λ i r l. absurd (omega (arith, l)) }; named = refl }

not_different : answer.Limit ≢ answer.Different
not_different e = cc

pub can_be_compared : PairAtLimitCanBeCompared
can_be_compared = record {
  first = first;
  separated = separated;
  first_limit = first_limit;
  found = record { pairs_fit = (meets_premises.fits, tt); verdict_is = (All-from_recursion (λ (r : PairResult). r.answer ≢ answer.Different) (chosen_result ∷ []) (not_different, tt), first_limit) };
}
