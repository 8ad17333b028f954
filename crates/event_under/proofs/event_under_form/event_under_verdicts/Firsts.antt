-- What is found at the obligations under an assumption is what is found of the pairs.
use Rattle.std.proofs.Common.{◌≡◌, ◌≢◌, ◌∙◌, ℕ, suc, ◌<◌, max, Bool, true, false, List, [], ◌∷◌, length, slice_get, Option, Some, None, refl, sym, ap, subst, arith, inl, inr}
use Rattle.std.specs.List.{All, AllZip}
use Rattle.std.proofs.lemmas.Option.{same_Some, slice_get_within}
use Rattle.std.proofs.lemmas.List.Elements.{All-contains}
use Rattle.circuit_theory.specs.Circuit.{Circuit}
use Rattle.circuit_theory.specs.Depth.{LatchesHaveDepths}
use Rattle.circuit_theory.specs.Fits.{MakesDiffer}
use Rattle.circuit_theory.specs.Joined.{Left, Right}
use Rattle.circuit_theory.specs.Query.{Variable, HasLeaf}
use Rattle.circuit_theory.specs.Run.{IsEnabled}
use Rattle.circuit_theory.specs.Sequence.{sequence_rows}
use Rattle.circuit_theory.specs.Tree.{Tree, IsInputNumber}
use Rattle.circuit_theory.proofs.Lists.{All-from_each, zip_length, zip_right}
use Rattle.circuit_theory.specs.Classes.{HasClasses}
use Rattle.circuit_theory.specs.EventFrames.{AreNodeVariables, IsPairTree, frame_of}
use Rattle.circuit_theory.specs.Frame.{bits_as_shifts}
use Rattle.flat_net.specs.View.{circuit_of}
use Rattle.flat_net.proofs.Nets.{some_at}
use Rattle.flat_net.proofs.Places.{All-at}
use Rattle.base_tables.specs.Table.{AreDistinct}
use Rattle.sec_base.specs.declared.basics.PairAnswer.{PairAnswer}
use Rattle.sec_base.specs.declared.basics.PairAnswer.TheVariants as answer
use Rattle.aig.specs.declared.node.Node.{Node}
use Rattle.aig.specs.Values.{value}
use Rattle.edbf_unfold.specs.class_queries.Enables.{both_of, class_map}
use Rattle.edbf_unfold.specs.class_queries.Laws.{AreKept}
use Rattle.edbf_unfold.proofs.class_queries.Meaning.{numbered}
use Rattle.event_nodes.specs.Nodes.{EventGraphView}
use Rattle.event_nodes.specs.View.{EventCircuitView}
use Rattle.event_nodes.specs.event_variables.Variables.{variables_of}
use Rattle.event_under.proofs.event_shown_under.event_under_fits.event_agreement.PairQueries.{are_variables}
use Rattle.sec_setup.specs.declared.ports.pairs.SignalPair.{SignalPair}
use Rattle.obligations.specs.declared.obligation.Difference.{Difference}
use Rattle.obligations.specs.declared.obligation.Obligation.{Obligation}
use Rattle.obligations.specs.declared.decision.Decided.{Decided}
use Rattle.obligations.specs.declared.verdict.VerdictAt.{VerdictAt}
use Rattle.obligations.specs.declared.verdict.VerdictAt.TheVariants as at
use Rattle.obligations.specs.Decided.{AnswerIs, HaveDecided, IsAnswered, IsFirst, IsFirstOf, NoneIs}
use Rattle.obligations.specs.Verdict.{IsVerdictAt}
use Rattle.event_under.specs.event_shown_under.event_under_fits.event_agreement.View.{EventsView, side_of_both}
use Rattle.swept_queries.proofs.Listed.{zip_left}
use Rattle.obligations.specs.declared.outcome.verdict.PairResult.{PairResult}
use Rattle.pair_decide.specs.declared.query.Proof.{Proof}
use Rattle.pair_decide.specs.declared.query.Query.{Query}
use Rattle.pair_decide.specs.Answers.{IsDifference}
use Rattle.pair_decide.specs.Queries.{assigned_to}
use Rattle.witness_report.specs.declared.witness.Witness.{Witness}
use Rattle.event_under.proofs.event_shown_under.event_under_fits.event_witness.InputLeaves.{pair_inputs_within}
use Rattle.event_under.specs.event_shown_under.event_under_fits.event_witness.Sequences.{HasInputsBelow}
use Rattle.event_under.specs.event_shown_under.event_under_fits.event_witness.UnshownFrame.{UnshownFrame}
use Rattle.event_under.specs.event_shown_under.event_under_fits.event_findings.Reached.{BothReachAlways}
use Rattle.event_under.specs.event_shown_under.event_under_fits.event_findings.Told.{TellsBits}
use Rattle.event_under.specs.event_shown_under.event_under_fits.event_findings.ToldSeparation.{ToldSeparation}
use Rattle.event_under.specs.event_shown_under.event_under_fits.event_findings.Compared.{AreCompared, IsEventDepth}
use Rattle.event_under.specs.event_shown_under.event_under_fits.event_findings.Findings.{IsFirstWith, IsFirstLimit}
use Rattle.event_under.specs.event_shown_under.event_under_fits.event_findings.Separations.{AreToldApart}
use Rattle.event_under.specs.event_shown_under.event_under_fits.event_findings.EventVerdict.{EventVerdict}
use Rattle.event_under.specs.event_shown_under.event_under_fits.event_findings.EventVerdict.TheVariants as verdict
use Rattle.event_under.specs.event_shown_under.event_under_fits.event_findings.EventPairs.{EventPairs}
use Rattle.assume_laws.specs.Assume.{Assumption}
use Rattle.assume_laws.specs.Sequences.{IsPairTreeUnder, IsMeetingRow, IsUnshownFrameUnder, RowsMeet, filled_frame}
use Rattle.assume_laws.proofs.Meeting.{leaf_input}
use Rattle.event_under.specs.Asked.{variables_in, IsAskedUnder, AreAskedUnder}
use Rattle.event_under.specs.Answers.{PairFitsUnder}
use Rattle.event_under.specs.Laws.{IsFrameDifferenceUnder}
use Rattle.obligations.proofs.Fits.{only_query}
use Rattle.event_under.proofs.Pairs.{pairs_fit, differences_show}
use Rattle.event_under.proofs.Sequences.{always_show}
use Rattle.event_under.specs.event_shown_under.event_under_fits.Findings.{IsSequenceUnder, IsFrameUnder, IsFirstDifferenceUnder, VerdictFitsUnder}
use Rattle.event_under.specs.declared.event_asked_under.asked.EventQuestions.{EventQuestions}
use Rattle.event_under.specs.event_asked_under.Questions.{named_at}
use Rattle.event_under.specs.event_under_form.event_under_verdicts.Laws.{VerdictsFitUnder}
use Rattle.event_under.specs.event_under_form.event_under_verdicts.Shown.{IsWitnessUnder, IsFrameAtUnder, IsShownUnder, IsShownUnshownUnder}

-- what makes a pair differ, by other names
differ_told : (a b : Circuit ℕ) (left right : List ℕ) (p q : ℕ) (rows told : List (List Bool)) (last cycle : ℕ) (l x r y : Bool) → rows ≡ told → last ≡ cycle → l ≡ x → r ≡ y → MakesDiffer a b left right p q rows last l r → MakesDiffer a b left right p q told cycle x y
differ_told a b left right p q rows told last cycle l x r y same_rows same_last same_left same_right h =
    subst (λ z. MakesDiffer a b left right p q told cycle x z) same_right
    (subst (λ z. MakesDiffer a b left right p q told cycle z r) same_left
    (subst (λ n. MakesDiffer a b left right p q told n l r) same_last (subst (λ (rs : List (List Bool)). MakesDiffer a b left right p q rs last l r) same_rows h)))

-- what is different is decisive
is_decisive : (g : List Node) (conflicts : ℕ) (o : Obligation) (y : PairAnswer) (proof : Option Proof) → y ≡ answer.Different → AnswerIs g conflicts o y proof → o.decisive ≡ true
is_decisive g conflicts o answer.Different None e h = h.0
is_decisive g conflicts o answer.Different (Some proof) e h = absurd h
is_decisive g conflicts o answer.Equal proof e h = cc
is_decisive g conflicts o answer.NotShown proof e h = cc
is_decisive g conflicts o answer.Limit proof e h = cc

-- what isn't shown isn't
isnt_decisive : (g : List Node) (conflicts : ℕ) (o : Obligation) (y : PairAnswer) (proof : Option Proof) → y ≡ answer.NotShown → AnswerIs g conflicts o y proof → o.decisive ≡ false
isnt_decisive g conflicts o answer.NotShown None e h = h.0
isnt_decisive g conflicts o answer.NotShown (Some proof) e h = absurd h
isnt_decisive g conflicts o answer.Equal proof e h = cc
isnt_decisive g conflicts o answer.Different proof e h = cc
isnt_decisive g conflicts o answer.Limit proof e h = cc

-- the only answer left
answer_left : (x : PairAnswer) → x ≢ answer.Different → x ≢ answer.Limit → x ≢ answer.NotShown → x ≡ answer.Equal
answer_left answer.Equal d l n = refl
answer_left answer.Different d l n = absurd (d refl)
answer_left answer.NotShown d l n = absurd (n refl)
answer_left answer.Limit d l n = absurd (l refl)

-- lists whose members at each place stand so to each other
zip_from : {X Y : Type 0} (R : X → Y → Type 0) (xs : List X) (ys : List Y) → length xs ≡ length ys → ((i : ℕ) (x : X) (y : Y) → slice_get xs i ≡ Some x → slice_get ys i ≡ Some y → R x y) → AllZip R xs ys
zip_from R [] [] long h = tt
zip_from R [] (y ∷ ys) long h = absurd (omega (arith, long))
zip_from R (x ∷ xs) [] long h = absurd (omega (arith, long))
zip_from R (x ∷ xs) (y ∷ ys) long h = (h 0 x y refl refl, zip_from R xs ys (omega (arith, long)) (λ i z w at to. h (suc i) z w at to))

-- what is asked is decided over a graph of its own
module _ (ac : Assumption) (a b : EventCircuitView) (w : EventGraphView) (c : EventPairs) (x : EventQuestions) (conflicts : ℕ) (asked : List Obligation) (meeting : ℕ → Bool) (kept : AreKept a b w) (classes : HasClasses (both_of a b))
    (deep : LatchesHaveDepths (both_of a b).circuit (IsEnabled (both_of a b).circuit)) (compared : AreCompared a b c) (distinct : AreDistinct (named_at w.children x)) (numbers : (p i : ℕ) → IsInputNumber ac.circuit ac.order p i → i < length c.names.now)
    (row : IsMeetingRow ac (length c.names.now) meeting) (under : AreAskedUnder ac (both_of a b) w x.aig (named_at w.children x) c.cut c.pairs.now asked x.asked.items) where
  -- the pair of an obligation
  pub record HasPairUnder (wanted : PairAnswer) (results : List PairResult) (d : Difference) : Type 0 where
    pub first : IsFirstOf x.aig x.asked.items wanted results d
    pub pair : SignalPair
    pub plain : Obligation
    pub pair_at : slice_get c.pairs.now d.pair ≡ Some pair
    pub plain_at : slice_get asked d.pair ≡ Some plain
    pub asks : IsAskedUnder ac (both_of a b) w x.aig (named_at w.children x) c.cut pair plain first.obligation

  pub pair_of : (wanted : PairAnswer) (results : List PairResult) (d : Difference) → IsFirstOf x.aig x.asked.items wanted results d → HasPairUnder wanted results d
  pair_of wanted results d first =
      let inside = slice_get_within x.asked.items d.pair first.obligation first.asked_at in
      let p = some_at c.pairs.now d.pair (omega (arith, inside, under.each_under)) in
      let o = some_at asked d.pair (omega (arith, inside, under.each_under, under.each_asked)) in
      record { first = first; pair = p.0; plain = o.0; pair_at = p.1; plain_at = o.1; asks = under.are d.pair p.0 o.0 first.obligation p.1 o.1 first.asked_at }

  module _ (wanted : PairAnswer) (results : List PairResult) (d : Difference) (h : HasPairUnder wanted results d) where
    abbrev p : SignalPair
    p = h.pair

    abbrev k : IsAskedUnder ac (both_of a b) w x.aig (named_at w.children x) c.cut h.pair h.plain h.first.obligation
    k = h.asks

    pub first_with : IsFirstWith wanted c.pairs.now results d.pair h.pair
    first_with = record { result = h.first.result; pair_at = h.pair_at; result_at = h.first.result_at; answered = h.first.answered; earlier = h.first.earlier }

    -- the difference is one of its query
    differs : IsDifference x.aig k.query d.bits
    differs = subst (λ (q : Query). IsDifference x.aig q d.bits) (only_query k.query h.first.obligation.queries d.query h.first.differs.query k.only h.first.differs.first.at) h.first.differs.differs

    shows : IsFrameDifferenceUnder ac (both_of a b) x.aig (named_at w.children x) (Left p.left.0) (Right p.right.0) (variables_of w k.plain.query.vars) k.query d.bits
    shows = differences_show ac (both_of a b) x.aig (named_at w.children x) (Left p.left.0) (Right p.right.0) (variables_of w k.plain.query.vars) k.query d.bits distinct k.asks differs

    -- the variables are columns
    below : All (λ (v : Variable (List ℕ)). v.input < length c.names.now) (variables_in (named_at w.children x) k.query.vars)
    below = All-from_each (λ (v : Variable (List ℕ)). v.input < length c.names.now) (variables_in (named_at w.children x) k.query.vars) (λ v m. let t = (k.asks.are_variables.exactly v).0 m in of_tree v t.0 t.1 t.2)
      where
        plain_are : AreNodeVariables (IsPairTree (both_of a b) (Left p.left.0) (Right p.right.0)) (variables_of w k.plain.query.vars)
        plain_are = are_variables (both_of a b) w (Left p.left.0) (Right p.right.0) k.plain.query kept.events k.plain.asks

        plain_below : All (λ (v : Variable (List ℕ)). v.input < length c.names.now) (variables_of w k.plain.query.vars)
        plain_below =
            pair_inputs_within (circuit_of a.net) (circuit_of b.net) a.order b.order (class_map a b) (numbered a kept.left) p.left.0 p.right.0 (length c.names.now) (variables_of w k.plain.query.vars)
            (All-at (λ (z : SignalPair). HasInputsBelow (circuit_of a.net) a.order (length c.names.now) z.left.0) c.pairs.now d.pair p h.pair_at compared.left_named)
            (All-at (λ (z : SignalPair). HasInputsBelow (circuit_of b.net) b.order (length c.names.now) z.right.0) c.pairs.now d.pair p h.pair_at compared.right_named) plain_are

        of_tree : (v : Variable (List ℕ)) (tree : Tree (List ℕ)) → IsPairTreeUnder ac (both_of a b) (Left p.left.0) (Right p.right.0) tree → HasLeaf v tree → v.input < length c.names.now
        of_tree v tree (inl own) stands = All-contains (λ (y : Variable (List ℕ)). y.input < length c.names.now) (variables_of w k.plain.query.vars) v plain_below ((plain_are.exactly v).1 (tree, own, stands))
        of_tree v tree (inr (node, has, unfolds)) stands = let n = leaf_input ac.circuit ac.order node v unfolds stands in numbers n.0 v.input n.1

    -- the frame of the difference is told
    pub frame : (y : UnshownFrame) → IsFrameAtUnder w x d y → (y.pair ≡ p.name) × IsFrameUnder ac a b p y
    frame y shown =
        let same_u : shown.under ≡ h.first.obligation = same_Some shown.under h.first.obligation (sym shown.under_at ∙ h.first.asked_at) in
        let query_at : slice_get h.first.obligation.queries d.query ≡ Some shown.query = subst (λ (u : Obligation). slice_get u.queries d.query ≡ Some shown.query) same_u shown.query_at in
        let same_q : shown.query ≡ k.query = only_query k.query h.first.obligation.queries d.query shown.query k.only query_at in
        let left : y.left ≡ value x.aig (assigned_to k.query.vars d.bits) k.query.left.0 = subst (λ (q : Query). y.left ≡ value x.aig (assigned_to q.vars d.bits) q.left.0) same_q shown.values.0 in
        let right : y.right ≡ value x.aig (assigned_to k.query.vars d.bits) k.query.right.0 = subst (λ (q : Query). y.right ≡ value x.aig (assigned_to q.vars d.bits) q.right.0) same_q shown.values.1 in
        let name : y.pair ≡ p.name = shown.pair_is ∙ (ap (λ (u : Obligation). u.name) same_u ∙ (k.name_is ∙ k.plain.name_is)) in (
          name,
          record {
            asked = shows.asked;
            sides = variables_of w k.plain.query.vars;
            variables = variables_in (named_at w.children x) k.query.vars;
            bits = d.bits;
            shown = subst (λ l. IsUnshownFrameUnder ac (both_of a b) (Left p.left.0) (Right p.right.0) (variables_in (named_at w.children x) k.query.vars) d.bits l y.right) (sym left)
                (subst (λ r. IsUnshownFrameUnder ac (both_of a b) (Left p.left.0) (Right p.right.0) (variables_in (named_at w.children x) k.query.vars) d.bits (value x.aig (assigned_to k.query.vars d.bits) k.query.left.0) r) (sym right) shows.shown);
            difference = shows.differs;
            told = subst (λ (q : Query). TellsBits (variables_in (named_at w.children x) q.vars) d.bits y.frame.items) same_q shown.told;
          },
        )

    -- the sequence of the difference, in the cycle of the pair's depth
    sequence_at : (y : Witness) → BothReachAlways (both_of a b) p → IsWitnessUnder w c asked x meeting d y → IsEventDepth a b p y.cycle →
        IsFrameDifferenceUnder ac (both_of a b) x.aig (named_at w.children x) (Left p.left.0) (Right p.right.0) (variables_of w k.plain.query.vars) k.query d.bits → (y.pair ≡ p.name) × IsSequenceUnder ac a b c.names.now meeting p y
    sequence_at y always shown far f =
        let count = length c.names.now in
        let same_u : shown.under ≡ h.first.obligation = same_Some shown.under h.first.obligation (sym shown.at.under_at ∙ h.first.asked_at) in
        let query_at : slice_get h.first.obligation.queries d.query ≡ Some shown.query = subst (λ (u : Obligation). slice_get u.queries d.query ≡ Some shown.query) same_u shown.at.query_at in
        let same_q : shown.query ≡ k.query = only_query k.query h.first.obligation.queries d.query shown.query k.only query_at in
        let same_o : shown.plain ≡ h.plain = same_Some shown.plain h.plain (sym shown.at.asked_at ∙ h.plain_at) in
        let own_at : slice_get h.plain.queries 0 ≡ Some shown.sides = subst (λ (o : Obligation). slice_get o.queries 0 ≡ Some shown.sides) same_o shown.at.own_at in
        let same_s : shown.sides ≡ k.plain.query = only_query k.plain.query h.plain.queries 0 shown.sides k.plain.only own_at in
        let left : y.left ≡ value x.aig (assigned_to k.query.vars d.bits) k.query.left.0 = subst (λ (q : Query). y.left ≡ value x.aig (assigned_to q.vars d.bits) q.left.0) same_q shown.values.0 in
        let right : y.right ≡ value x.aig (assigned_to k.query.vars d.bits) k.query.right.0 = subst (λ (q : Query). y.right ≡ value x.aig (assigned_to q.vars d.bits) q.right.0) same_q shown.values.1 in
        let name : y.pair ≡ p.name = shown.pair_is ∙ (ap (λ (u : Obligation). u.name) same_u ∙ (k.name_is ∙ k.plain.name_is)) in
        let rows : y.stimulus.rows ≡ told y.cycle =
        shown.rows_are
        ∙ (ap (λ (q : Query). sequence_rows y.cycle (bits_as_shifts (filled_frame (variables_of w q.vars) (variables_in (named_at w.children x) shown.query.vars) meeting d.bits)) count) same_s
        ∙ ap (λ (q : Query). sequence_rows y.cycle (bits_as_shifts (filled_frame (variables_of w k.plain.query.vars) (variables_in (named_at w.children x) q.vars) meeting d.bits)) count) same_q) in
        let made = always_show ac a b w p.left.0 p.right.0 count far.left far.right f.asked (variables_of w k.plain.query.vars) (variables_in (named_at w.children x) k.query.vars) d.bits meeting kept classes deep compared.numbers
        f.differs below row far.left_is far.right_is always.0 always.1 in
        let last : max far.left far.right ≡ y.cycle = sym far.greater in
        let left_is : y.left ≡ f.asked.left (frame_of (variables_in (named_at w.children x) k.query.vars) d.bits) = left ∙ sym f.left in
        let right_is : y.right ≡ f.asked.right (frame_of (variables_in (named_at w.children x) k.query.vars) d.bits) = right ∙ sym f.right in (
          name,
          record {
            asked = f.asked;
            sides = variables_of w k.plain.query.vars;
            variables = variables_in (named_at w.children x) k.query.vars;
            bits = d.bits;
            difference = f.differs;
            left_value = left_is;
            right_value = right_is;
            cycle_is = far;
            names_are = shown.names_are;
            rows_are = rows;
            differ = differ_told (circuit_of a.net) (circuit_of b.net) a.order b.order p.left.0 p.right.0 (told (max far.left far.right)) y.stimulus.rows (max far.left far.right) y.cycle
                (f.asked.left (frame_of (variables_in (named_at w.children x) k.query.vars) d.bits)) y.left (f.asked.right (frame_of (variables_in (named_at w.children x) k.query.vars) d.bits)) y.right
                (ap told last ∙ sym rows) last (sym left_is) (sym right_is) made.0;
            meets = subst (λ (rs : List (List Bool)). RowsMeet ac rs y.cycle) (ap told last ∙ sym rows) (subst (λ n. RowsMeet ac (told (max far.left far.right)) n) last made.1);
          },
        )
      where
        told : ℕ → List (List Bool)
        told n = sequence_rows n (bits_as_shifts (filled_frame (variables_of w k.plain.query.vars) (variables_in (named_at w.children x) k.query.vars) meeting d.bits)) (length c.names.now)

    pub sequence : (y : Witness) → BothReachAlways (both_of a b) p → IsWitnessUnder w c asked x meeting d y → (y.pair ≡ p.name) × IsSequenceUnder ac a b c.names.now meeting p y
    sequence y always shown =
        let z = zip_right (IsEventDepth a b) c.pairs.now c.depths.now compared.depths_are d.pair p h.pair_at in
        sequence_at y always shown (subst (IsEventDepth a b p) (same_Some z.0 y.cycle (sym z.1 ∙ shown.depth_at)) z.2) shows

    -- the result of the obligation
    answered_so : AllZip (IsAnswered x.aig conflicts) x.asked.items results → (r : PairResult) × IsAnswered x.aig conflicts h.first.obligation r × (r.answer ≡ wanted)
    answered_so all =
        let r = zip_right (IsAnswered x.aig conflicts) x.asked.items results all d.pair h.first.obligation h.first.asked_at in
        let same : r.0 ≡ h.first.result = same_Some r.0 h.first.result (sym r.1 ∙ h.first.result_at) in
        (r.0, r.2, ap (λ (z : PairResult). z.answer) same ∙ h.first.answered)

  -- each result is that of its pair
  pub results_fit : (results : List PairResult) → AllZip (IsAnswered x.aig conflicts) x.asked.items results → AllZip (PairFitsUnder ac (both_of a b) c.cut conflicts) c.pairs.now results
  results_fit results all = zip_from (PairFitsUnder ac (both_of a b) c.cut conflicts) c.pairs.now results (sym under.each_under ∙ zip_length (IsAnswered x.aig conflicts) x.asked.items results all) one
    where
      one : (i : ℕ) (p : SignalPair) (r : PairResult) → slice_get c.pairs.now i ≡ Some p → slice_get results i ≡ Some r → PairFitsUnder ac (both_of a b) c.cut conflicts p r
      one i p r at to =
          let u = zip_left (IsAnswered x.aig conflicts) x.asked.items results all i r to in
          let inside = slice_get_within c.pairs.now i p at in
          let o = some_at asked i (omega (arith, inside, under.each_asked)) in
          pairs_fit ac (both_of a b) w x.aig (named_at w.children x) c.cut conflicts p o.0 u.0 r distinct (under.are i p o.0 u.0 at o.1 u.1) u.2

  first_difference : (results : List PairResult) (d : Difference) (y : Witness) → AllZip (IsAnswered x.aig conflicts) x.asked.items results → IsFirstOf x.aig x.asked.items answer.Different results d → IsWitnessUnder w c asked x meeting d y →
      IsFirstDifferenceUnder ac a b meeting c results y
  first_difference results d y all first shown =
      let h = pair_of answer.Different results d first in
      let r = answered_so answer.Different results d h all in
      let only = h.asks.plain.decisive_is.0 (sym h.asks.decisive_is ∙ is_decisive x.aig conflicts h.first.obligation r.0.answer r.0.proof r.2 r.1.answer_is) in
      let s = sequence answer.Different results d h y (only.1, only.2) shown in
      record { index = d.pair; place = h.pair; first = first_with answer.Different results d h; named = s.0; sequence = s.1 }

  -- a pair that reaches class 0 alone is decisive where no latch is cut open
  cut_open : (results : List PairResult) (d : Difference) (h : HasPairUnder answer.NotShown results d) → AllZip (IsAnswered x.aig conflicts) x.asked.items results → BothReachAlways (both_of a b) h.pair → c.cut ≡ true
  cut_open results d h all always = go c.cut refl
    where
      wrong : true ≡ false → ⊥
      wrong q = cc

      go : (t : Bool) → c.cut ≡ t → c.cut ≡ true
      go true is = is
      go false is =
          let r = answered_so answer.NotShown results d h all in
          absurd (wrong (sym (h.asks.plain.decisive_is.1 (is, always.0, always.1)) ∙ (sym h.asks.decisive_is ∙ isnt_decisive x.aig conflicts h.first.obligation r.0.answer r.0.proof r.2 r.1.answer_is)))

  module _ (e : EventsView) (left_is : e.left ≡ a) (right_is : e.right ≡ b) where
    always_of : (p : SignalPair) → BothReachAlways (side_of_both e) p → BothReachAlways (both_of a b) p
    always_of p k = subst (λ (z : EventCircuitView). BothReachAlways (both_of a z) p) right_is (subst (λ (z : EventCircuitView). BothReachAlways (both_of z e.right) p) left_is k)

    apart_of : (p : SignalPair) (told : List ToldSeparation) → AreToldApart e.left e.right p told → AreToldApart a b p told
    apart_of p told k = subst (λ (z : EventCircuitView). AreToldApart a z p told) right_is (subst (λ (z : EventCircuitView). AreToldApart z e.right p told) left_is k)

    first_unshown : (results : List PairResult) (d : Difference) (y : EventVerdict) → AllZip (IsAnswered x.aig conflicts) x.asked.items results → NoneIs answer.Different results → NoneIs answer.Limit results → IsFirstOf x.aig x.asked.items answer.NotShown results d →
        IsShownUnshownUnder w e c asked x meeting d y → VerdictFitsUnder ac a b meeting c results y
    first_unshown results d verdict.Equal all different limit first shown = absurd shown
    first_unshown results d (verdict.Different y) all different limit first shown = absurd shown
    first_unshown results d (verdict.Limit y) all different limit first shown = absurd shown
    first_unshown results d (verdict.Cut y) all different limit first shown =
        let h = pair_of answer.NotShown results d first in
        let always = always_of h.pair (shown.1 h.pair h.pair_at) in
        let s = sequence answer.NotShown results d h y always shown.0 in
        (different, limit, record { index = d.pair; place = h.pair; first = first_with answer.NotShown results d h; cut = cut_open results d h all always; always = always; named = s.0; sequence = s.1 })
    first_unshown results d (verdict.Events y) all different limit first shown =
        let h = pair_of answer.NotShown results d first in
        let f = frame answer.NotShown results d h y.frame shown.0 in
        (different, limit, record { index = d.pair; place = h.pair; first = first_with answer.NotShown results d h; named = f.0; frame = f.1; apart = apart_of h.pair y.apart (shown.1 h.pair h.pair_at) })

    pub verdict_fits : (d : Decided) (y : VerdictAt) (v : EventVerdict) → HaveDecided x.aig conflicts x.asked.items d → IsVerdictAt d.different d.not_shown d.results y → IsShownUnder w e c asked x meeting d.results y v → VerdictFitsUnder ac a b meeting c d.results v
    verdict_fits d y v decided is shown = go y is shown
      where
        Fits : EventVerdict → Type 0
        Fits z = VerdictFitsUnder ac a b meeting c d.results z

        none_of : (wanted : PairAnswer) (first : Option Difference) → first ≡ None → IsFirst x.aig x.asked.items wanted d.results first → NoneIs wanted d.results
        none_of wanted first none k = subst (IsFirst x.aig x.asked.items wanted d.results) none k

        first_of : (wanted : PairAnswer) (first : Option Difference) (z : Difference) → first ≡ Some z → IsFirst x.aig x.asked.items wanted d.results first → IsFirstOf x.aig x.asked.items wanted d.results z
        first_of wanted first z some k = subst (IsFirst x.aig x.asked.items wanted d.results) some k

        go : (z : VerdictAt) → IsVerdictAt d.different d.not_shown d.results z → IsShownUnder w e c asked x meeting d.results z v → Fits v
        go at.Equal i k =
            let different = none_of answer.Different d.different i.0 decided.different in
            let unshown = none_of answer.NotShown d.not_shown i.2 decided.not_shown in
            subst Fits (sym k) (λ j z inside. answer_left _ (different j z inside) (i.1 j z inside) (unshown j z inside))
        go (at.Different z) i k = subst Fits (sym k.1) (first_difference d.results z k.0 decided.results (first_of answer.Different d.different z i decided.different) k.2)
        go (at.Limit place) i k =
            let l = i.1 in
            let same : k.0 ≡ l.result = same_Some k.0 l.result (sym k.1 ∙ l.at) in
            let z = zip_left (PairFitsUnder ac (both_of a b) c.cut conflicts) c.pairs.now d.results (results_fit d.results decided.results) place l.result l.at in
            let first : IsFirstWith answer.Limit c.pairs.now d.results place z.0 = record { result = l.result; pair_at = z.1; result_at = l.at; answered = l.limit; earlier = l.earlier } in
            let limit : IsFirstLimit c.pairs.now d.results k.0.name = record { index = place; place = z.0; first = first; named = ap (λ (r : PairResult). r.name) same ∙ z.2.name_is } in
            subst Fits (sym k.2) (none_of answer.Different d.different i.0 decided.different, limit)
        go (at.NotShown z) i k = first_unshown d.results z v decided.results (none_of answer.Different d.different i.0 decided.different) i.1 (first_of answer.NotShown d.not_shown z i.2 decided.not_shown) k

pub findings_fit : VerdictsFitUnder
findings_fit ac a b w c x conflicts asked meeting kept classes deep compared distinct numbers row under e left_is right_is d y v decided is shown = record {
  pairs_fit = results_fit ac a b w c x conflicts asked meeting kept classes deep compared distinct numbers row under d.results decided.results;
  verdict_is = verdict_fits ac a b w c x conflicts asked meeting kept classes deep compared distinct numbers row under e left_is right_is d y v decided is shown;
}
