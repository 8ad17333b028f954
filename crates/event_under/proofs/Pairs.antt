-- What answers to the query of a pair under an assumption say of its event functions.
use Rattle.std.proofs.Common.{◌≡◌, ◌∙◌, ℕ, ◌^◌, ◌<◌, ◌≤◌, Bool, true, false, List, [], length, slice_get, Some, refl, sym, ap, subst}
use Rattle.std.proofs.lemmas.List.Elements.{All-contains}
use Rattle.std.proofs.lemmas.Option.{slice_get-get_or}
use Rattle.circuit_theory.specs.Joined.{Either, Left, Right}
use Rattle.circuit_theory.specs.Names.{same_name}
use Rattle.circuit_theory.specs.Query as frame_query
use Rattle.circuit_theory.specs.Query.{Variable, bits_of}
use Rattle.circuit_theory.specs.Tree.{tree_value}
use Rattle.circuit_theory.proofs.Lists.{length-map}
use Rattle.circuit_theory.specs.EventFrames.{IsEventSize, event_pair, frame_of}
use Rattle.circuit_theory.specs.Frame.{EventSide}
use Rattle.base_tables.specs.Table.{AreDistinct}
use Rattle.aig.specs.declared.node.Node.{Node}
use Rattle.aig.specs.Values.{value}
use Rattle.obligations.specs.outcome.pair_decide.Query.{Query}
use Rattle.obligations.specs.outcome.pair_decide.Answers.{IsDifference}
use Rattle.obligations.specs.outcome.pair_decide.Queries.{IsLeast, Distinguishes, assigned_to}
use Rattle.event_nodes.specs.Nodes.{EventGraphView}
use Rattle.event_nodes.specs.event_variables.Variables.{variables_of}
use Rattle.sec_setup.specs.declared.ports.pairs.SignalPair.{SignalPair}
use Rattle.obligations.specs.declared.obligation.Obligation.{Obligation}
use Rattle.obligations.specs.Decided.{IsAnswered}
use Rattle.obligations.proofs.Fits.{AsksPair, answer_fits}
use Rattle.obligations.specs.declared.outcome.verdict.PairResult.{PairResult}
use Rattle.event_form.specs.Asked.{IsDecisive}
use Rattle.assume_laws.specs.Assume.{Assumption, under}
use Rattle.assume_laws.specs.Sequences.{IsEventPairQueryUnder, IsEventDifferenceUnder, IsUnshownFrameUnder}
use Rattle.event_under.specs.Asked.{variable_in, variables_in, AsksUnder, IsAskedUnder}
use Rattle.event_under.specs.Answers.{PairFitsUnder}
use Rattle.event_under.specs.Laws.{PairsFitUnder, IsFrameDifferenceUnder, DifferencesShowUnder}
use Rattle.event_under.proofs.Bits.{bits_take, assignment_in, takes_assignment}

module _ (c : Assumption) (s : EventSide (Either ℕ ℕ)) (g : List Node) (places : List (ℕ × List ℕ)) (p q : Either ℕ ℕ) (sides : List (Variable (List ℕ))) (query : Query) (distinct : AreDistinct places) (k : AsksUnder c s g places p q sides query) where
  abbrev variables : List (Variable (List ℕ))
  variables = variables_in places query.vars

  -- the frame of bits of the variables
  abbrev frame : List Bool → ℕ → List ℕ → Bool
  frame bits = frame_of variables bits

  takes : (bits : List Bool) (v : ℕ) (z : ℕ × List ℕ) → slice_get places v ≡ Some z → assigned_to query.vars bits v ≡ frame bits z.0 z.1
  takes bits = bits_take places distinct query.vars bits k.within

  variables_long : length variables ≡ length query.vars
  variables_long = length-map (variable_in places) query.vars

  shown_frame : (bits : List Bool) → IsDifference g query bits → IsUnshownFrameUnder c s p q variables bits (value g (assigned_to query.vars bits) query.left.0) (value g (assigned_to query.vars bits) query.right.0)
  shown_frame bits d = record {
    left_tree = k.left_tree;
    right_tree = k.right_tree;
    left_unfolds = k.left_unfolds;
    right_unfolds = k.right_unfolds;
    are_variables = k.are_variables;
    each = d.each ∙ sym variables_long;
    care = (k.care_value (frame bits) (assigned_to query.vars bits) (takes bits)).0 d.distinguishes.care;
    left_value = k.left_value (frame bits) (assigned_to query.vars bits) (takes bits);
    right_value = k.right_value (frame bits) (assigned_to query.vars bits) (takes bits);
    differ = d.distinguishes.differ;
  }

  -- the query as one of frames
  asked : frame_query.Query (List ℕ)
  asked = record { left = λ bits. tree_value bits k.left_tree; right = λ bits. tree_value bits k.right_tree; care = λ bits. value g (assignment_in places bits) query.care.0 }

  asks_pair : IsEventPairQueryUnder c s p q asked
  unfolding asked
  asks_pair = record {
    left_tree = k.left_tree;
    right_tree = k.right_tree;
    left_unfolds = k.left_unfolds;
    right_unfolds = k.right_unfolds;
    left = λ bits. refl;
    right = λ bits. refl;
    care = λ bits. k.care_value bits (assignment_in places bits) (takes_assignment places bits);
  }

  frames_differ : (bits : List Bool) → Distinguishes g query (assigned_to query.vars bits) → frame_query.Distinguishes asked (frame bits)
  unfolding asked
  frames_differ bits d = record {
    care = (k.care_value (frame bits) (assignment_in places (frame bits)) (takes_assignment places (frame bits))).1 ((k.care_value (frame bits) (assigned_to query.vars bits) (takes bits)).0 d.care);
    differs = λ e. d.differ (k.left_value (frame bits) (assigned_to query.vars bits) (takes bits) ∙ (e ∙ sym (k.right_value (frame bits) (assigned_to query.vars bits) (takes bits))));
  }

  lits_differ : (bits : List Bool) → frame_query.Distinguishes asked (frame bits) → Distinguishes g query (assigned_to query.vars bits)
  unfolding asked
  lits_differ bits d = record {
    care = (k.care_value (frame bits) (assigned_to query.vars bits) (takes bits)).1 ((k.care_value (frame bits) (assignment_in places (frame bits)) (takes_assignment places (frame bits))).0 d.care);
    differ = λ e. d.differs (sym (k.left_value (frame bits) (assigned_to query.vars bits) (takes bits)) ∙ (e ∙ k.right_value (frame bits) (assigned_to query.vars bits) (takes bits)));
  }

  least_is : (number : ℕ) → IsLeast g query number → frame_query.IsLeast same_name asked variables number
  least_is number h = record {
    in_range = subst (λ n. number < 2 ^ n) (sym variables_long) h.in_range;
    distinguishes = subst (λ n. frame_query.Distinguishes asked (frame (bits_of number n))) (sym variables_long) (frames_differ (bits_of number (length query.vars)) h.distinguishes);
    least = λ m below d. h.least m below (lits_differ (bits_of m (length query.vars)) (subst (λ n. frame_query.Distinguishes asked (frame (bits_of m n))) variables_long d));
  }

  event_difference : (bits : List Bool) → IsDifference g query bits → IsEventDifferenceUnder c s p q asked sides variables bits
  event_difference bits d = record {
    asks = asks_pair;
    are_sides = k.are_sides;
    are_variables = k.are_variables;
    each = d.each ∙ sym variables_long;
    distinguishes = frames_differ bits d.distinguishes;
    least = λ few. (let n = d.least (subst (λ i. i ≤ 16) variables_long few) in (n.0, n.1 ∙ ap (bits_of n.0) (sym variables_long), least_is n.0 n.2));
  }

  pub frame_difference : (bits : List Bool) → IsDifference g query bits → IsFrameDifferenceUnder c s g places p q sides query bits
  unfolding asked
  frame_difference bits d = record {
    asked = asked;
    differs = event_difference bits d;
    left = sym (k.left_value (frame bits) (assigned_to query.vars bits) (takes bits));
    right = sym (k.right_value (frame bits) (assigned_to query.vars bits) (takes bits));
    shown = shown_frame bits d;
  }

  -- the query asks about the pair under the assumption
  pub asks_under : AsksPair (under c (event_pair s p q)) g places (variable_in places) frame query
  asks_under = record {
    left_tree = k.left_tree;
    right_tree = k.right_tree;
    left_unfolds = k.left_unfolds;
    right_unfolds = k.right_unfolds;
    are_variables = k.are_variables;
    distinct = distinct;
    named = λ v here. slice_get-get_or places v (0, []) (All-contains (λ u. u < length places) query.vars v k.within here);
    one_literal = k.one_literal;
    left_value = k.left_value;
    right_value = k.right_value;
    care_value = k.care_value;
    takes = takes;
  }

true_not_false : true ≡ false → ⊥
true_not_false e = cc

module _ (c : Assumption) (s : EventSide (Either ℕ ℕ)) (w : EventGraphView) (g : List Node) (places : List (ℕ × List ℕ)) (cut : Bool) (p : SignalPair) (o u : Obligation) (distinct : AreDistinct places) (k : IsAskedUnder c s w g places cut p o u) where
  pair_fits : (conflicts : ℕ) (r : PairResult) → IsAnswered g conflicts u r → PairFitsUnder c s cut conflicts p r
  pair_fits conflicts r h = record {
    name_is = h.name_is ∙ (k.name_is ∙ k.plain.name_is);
    size_is = subst (IsEventSize s (Left p.left.0) (Right p.right.0)) (sym (h.size_is ∙ k.size_is)) k.plain.size_is;
    answer_is = answer_fits (asks_under c s g places (Left p.left.0) (Right p.right.0) (variables_of w k.plain.query.vars) k.query distinct k.asks) u k.only (IsDecisive s cut p.left.0 p.right.0)
        (λ e. k.plain.decisive_is.0 (sym k.decisive_is ∙ e)) (λ e d. true_not_false (sym (k.plain.decisive_is.1 d) ∙ (sym k.decisive_is ∙ e))) conflicts r.answer r.proof h.answer_is;
  }

pub pairs_fit : PairsFitUnder
pairs_fit c s w g places cut conflicts p o u r distinct k h = pair_fits c s w g places cut p o u distinct k conflicts r h

pub differences_show : DifferencesShowUnder
differences_show c s g places p q sides query bits distinct k d = frame_difference c s g places p q sides query distinct k bits d
