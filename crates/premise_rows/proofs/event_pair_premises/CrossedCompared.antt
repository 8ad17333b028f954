-- What comparing that pair asks for is met, and what is found fits.
use Rattle.std.proofs.Common.{◌≡◌, ◌≢◌, ℕ, false, List, [], ◌∷◌, refl, sym, subst, arith}
use Rattle.std.specs.Prelude.{codes}
use Rattle.std.proofs.lemmas.List.Elements.{All-from_recursion, All-nil}
use Rattle.circuit_theory.specs.EventFrames.{IsUnshownFrame}
use Rattle.circuit_theory.specs.Joined.{Left, Right}
use Rattle.base_tables.proofs.Appended.{distinct-push}
use Rattle.sec_base.specs.declared.basics.PairAnswer.TheVariants as answer
use Rattle.sec_setup.specs.declared.ports.pairs.SignalPair.{SignalPair}
use Rattle.flat_net.specs.View.{circuit_of}
use Rattle.obligations.specs.declared.outcome.verdict.PairResult.{PairResult}
use Rattle.event_form.specs.Asked.{IsPairOf}
use Rattle.event_form.specs.declared.event_findings.unshown_pairs.separations.ToldSeparation.{ToldSeparation}
use Rattle.event_form.specs.declared.event_findings.verdict.EventVerdict.TheVariants as verdict
use Rattle.event_form.specs.declared.event_findings.verdict.UnshownPair.{UnshownPair}
use Rattle.event_form.specs.event_findings.Compared.{AreCompared}
use Rattle.event_form.specs.event_findings.Findings.{FindingsFit, IsFrameOf}
use Rattle.event_form.specs.event_findings.event_witness.Sequences.{HasInputsBelow}
use Rattle.event_form.specs.event_findings.unshown_pairs.Separations.{AreToldApart, OccursFor}
use Rattle.premise_rows.specs.event_pair_premises.Comparable.{CanBeCompared}
use Rattle.premise_rows.specs.event_pair_premises.Crossed.{crossed_pair, crossed_result, e_alone, e_then_a}
use Rattle.premise_rows.specs.event_pair_premises.CrossedCompared.{crossed_compared, TellsEAlone, CrossedPairCanBeCompared}
use Rattle.premise_rows.specs.event_pair_premises.Held.{both_held, loads_a, loads_not_a}
use Rattle.premise_rows.specs.event_pair_premises.HeldCompared.{with_classes}
use Rattle.premise_rows.proofs.block_premises.TurningNets.{one_name}
use Rattle.premise_rows.proofs.event_outcome_samples.Nets.{nothing}
use Rattle.premise_rows.proofs.event_pair_premises.Crossed.{meet_premises}
use Rattle.premise_rows.proofs.event_pair_premises.Differing.{root_kept}
use Rattle.premise_rows.proofs.event_pair_premises.HeldCompared.{events, left_named, separated, within}
use Rattle.premise_rows.proofs.event_pair_premises.HeldPair.{kept, numbered, classes, left_y_depth, not_always, one_class, right_below, right_latch_depth}

right_named : HasInputsBelow (circuit_of loads_not_a.net) loads_not_a.order 2 2
right_named q k i visits h = right_below q i h

compared : AreCompared loads_a loads_not_a crossed_compared
compared = record {
  depths_are = (record { left = 1; right = 1; left_is = left_y_depth; right_is = right_latch_depth; greater = refl }, tt);
  numbers = numbered;
  left_named = All-from_recursion (λ (p : SignalPair). HasInputsBelow (circuit_of loads_a.net) loads_a.order 2 p.left.0) (crossed_pair ∷ []) (left_named, tt);
  right_named = All-from_recursion (λ (p : SignalPair). HasInputsBelow (circuit_of loads_not_a.net) loads_not_a.order 2 p.right.0) (crossed_pair ∷ []) (right_named, tt);
  distinct = distinct-push (codes "e" ∷ []) (codes "a") (one_name (codes "e")) refl;
}

first : CanBeCompared with_classes crossed_compared
first = record {
  kept = record { left_sound = kept.left_sound; right_sound = kept.right_sound; left = kept.left; right = kept.right; events = root_kept };
  events = events;
  pairs = All-from_recursion (IsPairOf with_classes) (crossed_pair ∷ []) (record { left = omega arith; right = omega arith }, tt);
  compared = compared;
  within = within;
}

-- one class occurs, so no two are told apart
occurs : (class : ℕ) → OccursFor both_held crossed_pair class → 1 ≡ class
occurs class h = one_class 2 h.0 h.1 class h.2

none_apart : AreToldApart loads_a loads_not_a crossed_pair []
none_apart = record {
  others = λ h. not_always h.0;
  classes = classes;
  separations = record {
    each = All-nil _;
    in_order = λ i j d l h. absurd (omega (arith, h));
    exactly = λ i j. (λ f. absurd (nothing f.0 f.1), λ h. absurd (let a = occurs i h.1 in let b = occurs j h.2 in omega (arith, h.0, a, b)));
  };
}

frame_is : (x : UnshownPair) → TellsEAlone x → IsFrameOf loads_a loads_not_a crossed_pair x.frame
frame_is x t = record {
  asked = meet_premises.least.asked;
  variables = e_then_a;
  bits = e_alone;
  shown = subst (λ l. IsUnshownFrame both_held (Left 4) (Right 2) e_then_a e_alone l x.frame.right) (sym t.left_is) (subst (λ r. IsUnshownFrame both_held (Left 4) (Right 2) e_then_a e_alone false r) (sym t.right_is) meet_premises.frame);
  difference = meet_premises.least.differs;
  told = t.told;
}

not_different : answer.NotShown ≢ answer.Different
not_different e = cc

not_limit : answer.NotShown ≢ answer.Limit
not_limit e = cc

fits : (x : UnshownPair) → TellsEAlone x → (conflicts : ℕ) → FindingsFit loads_a loads_not_a crossed_compared conflicts (record { pairs = crossed_result ∷ []; verdict = verdict.Events x })
fits x t conflicts = record {
  pairs_fit = (meet_premises.fits conflicts, tt);
  verdict_is = (
    All-from_recursion (λ (r : PairResult). r.answer ≢ answer.Different) (crossed_result ∷ []) (not_different, tt),
    All-from_recursion (λ (r : PairResult). r.answer ≢ answer.Limit) (crossed_result ∷ []) (not_limit, tt),
    record {
      index = 0;
      place = crossed_pair;
      first = record { result = crossed_result; pair_at = refl; result_at = refl; answered = refl; earlier = λ i r l. absurd (omega (arith, l)) };
      named = t.pair_is;
      frame = frame_is x t;
      apart = subst (λ (told : List ToldSeparation). AreToldApart loads_a loads_not_a crossed_pair told) (sym t.apart) none_apart;
    },
  );
}

pub can_be_compared : CrossedPairCanBeCompared
can_be_compared = record { first = first; separated = separated; found = fits }
