-- Of the two circuits with enabled latches the output of the first beside the latch of the second: they differ, in a frame with care.
use Rattle.std.specs.Prelude.{◌≡◌, ℕ, true, false, Bool, List, [], ◌∷◌, None, codes}
use Rattle.circuit_theory.specs.Joined.{Left, Right}
use Rattle.circuit_theory.specs.Query.{Variable}
use Rattle.circuit_theory.specs.EventFrames.{IsUnshownFrame}
use Rattle.sec_base.specs.declared.basics.PairAnswer.TheVariants as answer
use Rattle.sec_setup.specs.declared.ports.pairs.SignalPair.{SignalPair}
use Rattle.witness_report.specs.declared.witness.PairName.TheVariants as pair
use Rattle.event_nodes.specs.aig.Values.{value}
use Rattle.pair_decide.specs.declared.query.Query.{Query}
use Rattle.pair_decide.specs.Answers.{IsDifference}
use Rattle.pair_decide.specs.Queries.{IsQuery}
use Rattle.obligations.specs.declared.obligation.Obligation.{Obligation}
use Rattle.obligations.specs.declared.outcome.verdict.PairResult.{PairResult}
use Rattle.obligations.specs.Decided.{IsAnswered}
use Rattle.obligations.specs.Found.{IsDifferenceOf}
use Rattle.event_form.specs.Answers.{PairFits, IsFrameOf}
use Rattle.event_form.specs.Asked.{IsAskedOf}
use Rattle.event_form.specs.event_agreement.Queries.{AsksEventPair}
use Rattle.event_form.specs.event_agreement.Laws.{IsFrameDifference}
use Rattle.premise_rows.specs.event_pair_premises.Held.{both_held, held_nodes, at_load}

abbrev pub crossed_pair : SignalPair
crossed_pair = record { name = pair.Output (codes "y"); left = record { 0 = 4 }; right = record { 0 = 2 } }

-- is e and a the same as e and not a? The care is e, at the child.
abbrev pub crossed : Query
crossed = record { left = record { 0 = 10 }; right = record { 0 = 12 }; care = record { 0 = 6 }; vars = 2 ∷ 3 ∷ [] }

abbrev pub crossed_asked : Obligation
crossed_asked = record { name = pair.Output (codes "y"); size = 2; decisive = false; queries = crossed ∷ [] }

abbrev pub crossed_result : PairResult
crossed_result = record { name = pair.Output (codes "y"); size = 2; answer = answer.NotShown; proof = None }

-- e is 1 and a is 0, at the child by class 1
abbrev pub e_alone : List Bool
e_alone = true ∷ false ∷ []

abbrev pub e_then_a : List (Variable (List ℕ))
e_then_a = record { input = 0; at = 1 ∷ [] } ∷ record { input = 1; at = 1 ∷ [] } ∷ []

-- Where all is 0 both are 0 too, but there is no care. The least difference has e alone set: a frame with care for both, 0 in A and 1 in B. Since a
-- class other than 0 is reached the pair isn't shown.
pub record CaredMeetPremises : Type 0 where
  pub asks : AsksEventPair both_held at_load (Left 4) (Right 2) crossed
  pub no_care : value held_nodes (λ v. false) 6 ≡ false
  pub differs : IsDifference held_nodes crossed e_alone
  pub asked : IsAskedOf both_held at_load false crossed_pair crossed_asked
  pub answered : (conflicts : ℕ) → IsAnswered held_nodes conflicts crossed_asked crossed_result
  pub found : IsDifferenceOf held_nodes (crossed ∷ []) 0 e_alone
  pub is_query : IsQuery held_nodes crossed
  pub frame : IsUnshownFrame both_held (Left 4) (Right 2) e_then_a e_alone false true
  pub least : IsFrameDifference both_held at_load (Left 4) (Right 2) crossed e_alone
  pub frame_of_pair : IsFrameOf both_held at_load crossed_pair (crossed ∷ []) 0 e_alone
  pub fits : (conflicts : ℕ) → PairFits both_held false conflicts crossed_pair crossed_result
