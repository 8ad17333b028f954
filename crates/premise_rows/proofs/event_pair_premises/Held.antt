-- The premises are met, and so both circuits agree.
use Rattle.std.proofs.Common.{◌≡◌, ◌≢◌, ℕ, true, false, [], ◌∷◌, refl, subst, arith}
use Rattle.std.specs.List.{All, Contains}
use Rattle.std.proofs.lemmas.List.Elements.{All-from_recursion}
use Rattle.circuit_theory.specs.Agree.{IsPair}
use Rattle.circuit_theory.specs.Joined.{Left, Right}
use Rattle.circuit_theory.proofs.Lists.{Contains-head}
use Rattle.sec_base.specs.declared.basics.PairAnswer.TheVariants as answer
use Rattle.sec_setup.specs.declared.ports.pairs.SignalPair.{SignalPair}
use Rattle.event_nodes.specs.aig.Values.{value, lit_bit, node_bits, bits_from}
use Rattle.pair_decide.specs.Queries.{IsSame}
use Rattle.obligations.specs.declared.outcome.verdict.PairResult.{PairResult}
use Rattle.obligations.specs.Decided.{IsAnswered}
use Rattle.event_form.specs.Asked.{IsAskedOf}
use Rattle.event_form.specs.Laws.{AreAllPairs}
use Rattle.event_form.specs.event_agreement.Laws.{HasSameQuery}
use Rattle.event_form.proofs.Answers.{answers_are_fit, equal_agree}
use Rattle.event_form.proofs.event_agreement.PairQueries.{equal_events}
use Rattle.premise_rows.specs.event_pair_premises.Held.{loads_a, loads_not_a, both_held, held_nodes, at_load, y_query, held_pair, held_asked, held_result, EqualitiesMeetPremises}
use Rattle.premise_rows.proofs.event_pair_premises.HeldPair.{load_kept, kept, asks, same, left_circuit, right_circuit, numbered, depths, classes, size, not_always, output_is}

differ : false ≡ true → ⊥
differ e = cc

elsewhere : value held_nodes (λ v. false) 10 ≢ value held_nodes (λ v. false) 13
unfolding value node_bits bits_from lit_bit
elsewhere e = differ e

at_outputs : (F : ℕ → ℕ → Type 0) → F 4 4 → (p q : ℕ) → IsPair [] left_circuit right_circuit p q → F p q
at_outputs F four p q (IsPair.nexts h l r) = absurd (omega (arith, h.1))
at_outputs F four p q (IsPair.outputs {name = name} l r) = subst (λ k. F k q) (output_is name p l) (subst (F 4) (output_is name q r) four)

pub each_pair : (p q : ℕ) → IsPair [] left_circuit right_circuit p q → HasSameQuery both_held at_load (Left p) (Right q)
each_pair p q h = at_outputs (λ m n. HasSameQuery both_held at_load (Left m) (Right n)) (record { query = y_query; asks = asks; same = same }) p q h

pub asked : IsAskedOf both_held at_load false held_pair held_asked
asked = record { name_is = refl; size_is = size 4; decisive_is = (λ e. absurd (differ e), λ h. absurd (not_always h.1)); query = y_query; only = refl; asks = asks }

pub answered : (conflicts : ℕ) → IsAnswered held_nodes conflicts held_asked held_result
answered conflicts = record { name_is = refl; size_is = refl; answer_is = All-from_recursion (IsSame held_nodes) (y_query ∷ []) (same, tt) }

all_equal : All (λ (r : PairResult). r.answer ≡ answer.Equal) (held_result ∷ [])
all_equal = All-from_recursion (λ (r : PairResult). r.answer ≡ answer.Equal) (held_result ∷ []) (refl, tt)

all_pairs : AreAllPairs loads_a loads_not_a (held_pair ∷ [])
all_pairs p q h = at_outputs (λ m n. (x : SignalPair) × Contains (held_pair ∷ []) x × (x.left.0 ≡ m) × (x.right.0 ≡ n)) (held_pair, Contains-head held_pair [], refl, refl) p q h

pub meet_premises : EqualitiesMeetPremises
meet_premises = record {
  kept = kept;
  classes = classes;
  depths = depths;
  numbered = numbered;
  asks = asks;
  same = same;
  elsewhere = elsewhere;
  each_pair = each_pair;
  asked = (asked, tt);
  answered = λ conflicts. (answered conflicts, tt);
  all_equal = all_equal;
  all_pairs = all_pairs;
  equal = equal_events both_held at_load (Left 4) (Right 4) y_query load_kept asks same;
  fits = λ conflicts. answers_are_fit both_held at_load false conflicts held_pair held_asked held_result load_kept asked (answered conflicts);
  agree = equal_agree loads_a loads_not_a at_load false 0 (held_pair ∷ []) (held_asked ∷ []) (held_result ∷ []) kept classes depths numbered (asked, tt) (answered 0, tt) all_equal all_pairs;
}
