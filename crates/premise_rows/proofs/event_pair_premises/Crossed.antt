-- The pair that differs in a frame with care meets the premises.
use Rattle.std.proofs.Common.{◌≡◌, ℕ, zero, suc, ◌<◌, true, false, [], ◌∷◌, refl, arith, inl, inr}
use Rattle.circuit_theory.specs.Joined.{Left, Right}
use Rattle.event_nodes.specs.aig.Rules.{simple_and}
use Rattle.event_nodes.specs.aig.Values.{value, lit_bit, node_bits, bits_from}
use Rattle.pair_decide.specs.Answers.{IsDifference}
use Rattle.pair_decide.specs.Queries.{Distinguishes, IsTrivial, numbered}
use Rattle.obligations.specs.Decided.{IsAnswered}
use Rattle.obligations.specs.Found.{IsDifferenceOf}
use Rattle.event_form.specs.Asked.{IsAskedOf}
use Rattle.event_form.specs.event_agreement.Queries.{AsksEventPair}
use Rattle.event_form.proofs.Answers.{answers_are_fit, frames_of_differences}
use Rattle.event_form.proofs.event_agreement.PairQueries.{queries_of_pairs, frames_shown, differences_least}
use Rattle.premise_rows.specs.event_pair_premises.Crossed.{crossed_pair, crossed, crossed_asked, crossed_result, e_alone, CaredMeetPremises}
use Rattle.premise_rows.specs.event_pair_premises.Held.{both_held, held_nodes, at_load, over_load}
use Rattle.premise_rows.proofs.event_pair_premises.HeldPair.{left_is, load_kept, merge, not_always, right_latch_is, size}

asks : AsksEventPair both_held at_load (Left 4) (Right 2) crossed
unfolding simple_and
asks = record {
  left_function = over_load 10;
  right_function = over_load 12;
  left_is = left_is;
  right_is = right_latch_is;
  left = refl;
  right = refl;
  care = refl;
  care_within = omega arith;
  vars = merge;
}

not_trivial : IsTrivial crossed → ⊥
not_trivial (inl e) = omega (arith, e)
not_trivial (inr e) = omega (arith, e)

differ : false ≡ true → ⊥
differ e = cc

distinguishes : Distinguishes held_nodes crossed (numbered crossed 1)
unfolding value node_bits bits_from lit_bit
distinguishes = record { care = refl; differ = differ }

least : (m : ℕ) → m < 1 → Distinguishes held_nodes crossed (numbered crossed m) → ⊥
unfolding value node_bits bits_from lit_bit
least zero l d = differ d.care
least (suc m) l d = omega (arith, l)

differs : IsDifference held_nodes crossed e_alone
differs = record { apart = not_trivial; each = refl; distinguishes = distinguishes; least = λ few. (1, refl, record { in_range = omega arith; distinguishes = distinguishes; least = least }) }

found : IsDifferenceOf held_nodes (crossed ∷ []) 0 e_alone
found = record { query = crossed; first = record { at = refl; earlier = λ i r l h. absurd (omega (arith, l)) }; differs = differs }

asked : IsAskedOf both_held at_load false crossed_pair crossed_asked
asked = record { name_is = refl; size_is = size 2; decisive_is = (λ e. absurd (differ e), λ h. absurd (not_always h.1)); query = crossed; only = refl; asks = asks }

answered : (conflicts : ℕ) → IsAnswered held_nodes conflicts crossed_asked crossed_result
answered conflicts = record { name_is = refl; size_is = refl; answer_is = (refl, record { place = 0; bits = e_alone; is = found }) }

pub meet_premises : CaredMeetPremises
unfolding value node_bits bits_from lit_bit
meet_premises = record {
  asks = asks;
  no_care = refl;
  differs = differs;
  asked = asked;
  answered = answered;
  found = found;
  is_query = queries_of_pairs both_held at_load (Left 4) (Right 2) crossed load_kept asks;
  frame = frames_shown both_held at_load (Left 4) (Right 2) crossed e_alone load_kept asks differs;
  least = differences_least both_held at_load (Left 4) (Right 2) crossed e_alone load_kept asks differs;
  frame_of_pair = frames_of_differences both_held at_load false crossed_pair crossed_asked 0 e_alone load_kept asked found;
  fits = λ conflicts. answers_are_fit both_held at_load false conflicts crossed_pair crossed_asked crossed_result load_kept asked (answered conflicts);
}
