-- What comparing the pair of the `and` and the `or` asks for is met, and what is found fits.
use Rattle.std.proofs.Common.{◌≡◌, ◌≢◌, ◌∙◌, ℕ, suc, ◌≤◌, false, List, [], ◌∷◌, slice_get, Some, refl, sym, subst, arith}
use Rattle.std.proofs.lemmas.List.Elements.{All-from_recursion}
use Rattle.std.proofs.lemmas.Option.{none-some}
use Rattle.circuit_theory.specs.EventFrames.{IsUnshownFrame}
use Rattle.circuit_theory.specs.Joined.{Left, Right}
use Rattle.sec_base.specs.declared.basics.PairAnswer.TheVariants as answer
use Rattle.sec_setup.specs.declared.ports.pairs.SignalPair.{SignalPair}
use Rattle.flat_net.specs.View.{circuit_of}
use Rattle.event_nodes.specs.aig.Graph.{IsAbove}
use Rattle.event_nodes.specs.aig.Node.{Node}
use Rattle.event_nodes.specs.aig.Node.TheVariants.{Constant, Input, And}
use Rattle.event_nodes.specs.Nodes.{IsEventGraph}
use Rattle.obligations.specs.declared.outcome.verdict.PairResult.{PairResult}
use Rattle.event_form.proofs.event_findings.unshown_pairs.class_events.Begin.{begins}
use Rattle.event_form.specs.Asked.{IsPairOf}
use Rattle.event_form.specs.declared.event_findings.unshown_pairs.separations.ToldSeparation.{ToldSeparation}
use Rattle.event_form.specs.declared.event_findings.verdict.EventVerdict.TheVariants as verdict
use Rattle.event_form.specs.declared.event_findings.verdict.UnshownPair.{UnshownPair}
use Rattle.event_form.specs.event_findings.Compared.{AreCompared}
use Rattle.event_form.specs.event_findings.Findings.{FindingsFit, IsFrameOf}
use Rattle.event_form.specs.event_findings.event_witness.Sequences.{HasInputsBelow}
use Rattle.event_form.specs.event_findings.unshown_pairs.Separations.{AreToldApart}
use Rattle.call_rows.specs.circuit_samples.Circuits.{and_cover}
use Rattle.premise_rows.specs.event_apart_premises.TwoClasses.{and_or_pair, and_or_result, and_or_compared, TellsQAlone, PairOfTwoClassesCanBeCompared}
use Rattle.premise_rows.specs.event_apart_premises.TwoLoads.{or_cover, shows_and, shows_or, both_loading, three_inputs, with_two, four_variables, q_alone}
use Rattle.premise_rows.specs.event_pair_premises.Comparable.{CanBeCompared}
use Rattle.premise_rows.proofs.block_premises.TurningNets.{each}
use Rattle.premise_rows.proofs.event_apart_premises.TwoApart.{separated}
use Rattle.premise_rows.proofs.event_apart_premises.TwoPair.{and_sound, or_sound, numbered, depths, classes}
use Rattle.premise_rows.proofs.event_apart_premises.TwoSide as side
use Rattle.premise_rows.proofs.event_apart_premises.TwoTold.{told_apart}
use Rattle.premise_rows.proofs.event_apart_premises.TwoFrame.{asked, difference, pair_fits, shown}

-- what comparing asks for
three_kept : IsEventGraph three_inputs
three_kept = record {
  is_graph = record { constant = refl; ordered = each IsAbove three_inputs.graph (tt, (tt, (tt, (tt, tt)))); once = λ n m node h k. sym (place n node h) ∙ place m node k; few = omega arith };
  is_tree = λ k n class h. absurd (none-some (n, class) h);
  once = λ i j x h k. absurd (none-some x h);
  placed = All-from_recursion (λ (p : ℕ × ℕ). p.1 ≤ 0) three_inputs.places (omega arith, (omega arith, (omega arith, tt)));
  place_once = λ i j x h k. sym (variable i x h) ∙ variable j x k;
}
  where
    number_of : Node → ℕ
    number_of Constant = 0
    number_of (Input v) = suc v
    number_of (And l r) = 4

    place : (n : ℕ) (node : Node) → slice_get three_inputs.graph n ≡ Some node → number_of node ≡ n
    place = each (λ n (node : Node). number_of node ≡ n) three_inputs.graph (refl, (refl, (refl, (refl, tt))))

    variable : (i : ℕ) (p : ℕ × ℕ) → slice_get three_inputs.places i ≡ Some p → p.0 ≡ i
    variable = each (λ i (p : ℕ × ℕ). p.0 ≡ i) three_inputs.places (refl, (refl, (refl, tt)))

left_named : HasInputsBelow (circuit_of shows_and.net) shows_and.order 3 7
left_named q k i visits h = (side.own_number and_cover and_sound refl q i h).1

right_named : HasInputsBelow (circuit_of shows_or.net) shows_or.order 3 7
right_named q k i visits h = (side.own_number or_cover or_sound refl q i h).1

compared : AreCompared shows_and shows_or and_or_compared
compared = record {
  depths_are = (record { left = 1; right = 1; left_is = side.y_depth and_cover and_sound refl; right_is = side.y_depth or_cover or_sound refl; greater = refl }, tt);
  numbers = numbered;
  left_named = All-from_recursion (λ (p : SignalPair). HasInputsBelow (circuit_of shows_and.net) shows_and.order 3 p.left.0) (and_or_pair ∷ []) (left_named, tt);
  right_named = All-from_recursion (λ (p : SignalPair). HasInputsBelow (circuit_of shows_or.net) shows_or.order 3 p.right.0) (and_or_pair ∷ []) (right_named, tt);
  distinct = side.input_names;
}

first : CanBeCompared with_two and_or_compared
first = record {
  kept = record {
    left_sound = side.sound and_cover and_sound refl;
    right_sound = side.sound or_cover or_sound refl;
    left = side.is_circuit and_cover and_sound refl;
    right = side.is_circuit or_cover or_sound refl;
    events = three_kept;
  };
  events = record { classes = classes; number = refl; depths = depths; left_depths = side.depths and_cover and_sound refl; right_depths = side.depths or_cover or_sound refl };
  pairs = All-from_recursion (IsPairOf with_two) (and_or_pair ∷ []) (record { left = omega arith; right = omega arith }, tt);
  compared = compared;
  within = record { starts = record { left = []; right = []; counted = begins with_two refl refl refl }; left = record { sum = refl; small = omega arith; few = omega arith }; right = record { sum = refl; small = omega arith; few = omega arith }; nodes = omega arith };
}

not_different : answer.NotShown ≢ answer.Different
not_different e = cc

not_limit : answer.NotShown ≢ answer.Limit
not_limit e = cc

frame_is : (x : UnshownPair) → TellsQAlone x → IsFrameOf shows_and shows_or and_or_pair x.frame
frame_is x t = record {
  asked = asked;
  variables = four_variables;
  bits = q_alone;
  shown = subst (λ l. IsUnshownFrame both_loading (Left 7) (Right 7) four_variables q_alone l x.frame.right) (sym t.left_is) (subst (λ r. IsUnshownFrame both_loading (Left 7) (Right 7) four_variables q_alone false r) (sym t.right_is) shown);
  difference = difference;
  told = t.told;
}

found : (x : UnshownPair) → TellsQAlone x → (conflicts : ℕ) → FindingsFit shows_and shows_or and_or_compared conflicts (record { pairs = and_or_result ∷ []; verdict = verdict.Events x })
found x t conflicts = record {
  pairs_fit = (pair_fits conflicts, tt);
  verdict_is = (
    All-from_recursion (λ (r : PairResult). r.answer ≢ answer.Different) (and_or_result ∷ []) (not_different, tt),
    All-from_recursion (λ (r : PairResult). r.answer ≢ answer.Limit) (and_or_result ∷ []) (not_limit, tt),
    record {
      index = 0;
      place = and_or_pair;
      first = record { result = and_or_result; pair_at = refl; result_at = refl; answered = refl; earlier = λ i r l. absurd (omega (arith, l)) };
      named = t.pair_is;
      frame = frame_is x t;
      apart = subst (λ (told : List ToldSeparation). AreToldApart shows_and shows_or and_or_pair told) (sym t.only) (told_apart t.one t.tells);
    },
  );
}

pub can_be_compared : PairOfTwoClassesCanBeCompared
can_be_compared = record { first = first; separated = separated; found = found }
