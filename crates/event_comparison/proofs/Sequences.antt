-- The sequence and the frame of a difference.
use Rattle.std.proofs.Common.{◌≡◌, ◌∙◌, ℕ, max, Bool, List, length, Some, sym, ap, subst}
use Rattle.std.specs.Prelude.{slice_get}
use Rattle.circuit_theory.specs.Circuit.{Circuit}
use Rattle.circuit_theory.specs.Depth.{LatchesHaveDepths}
use Rattle.circuit_theory.specs.Fits.{MakesDiffer}
use Rattle.circuit_theory.specs.Joined.{Left, Right}
use Rattle.circuit_theory.specs.Run.{IsEnabled}
use Rattle.circuit_theory.specs.Classes.{HasClasses}
use Rattle.circuit_theory.specs.EventFrames.{IsUnshownFrame}
use Rattle.flat_net.specs.View.{circuit_of}
use Rattle.flat_net.proofs.Places.{All-at}
use Rattle.aig.specs.Values.{value}
use Rattle.edbf_unfold.specs.class_queries.Enables.{both_of}
use Rattle.edbf_unfold.specs.class_queries.Laws.{AreKept}
use Rattle.event_nodes.specs.Nodes.{EventGraphView}
use Rattle.event_nodes.specs.View.{EventCircuitView}
use Rattle.event_nodes.specs.event_variables.Variables.{variables_of}
use Rattle.event_form.specs.event_agreement.Laws.{IsFrameDifference}
use Rattle.event_form.proofs.event_agreement.PairQueries.{differences_least}
use Rattle.sec_setup.specs.declared.ports.pairs.SignalPair.{SignalPair}
use Rattle.obligations.specs.declared.obligation.Obligation.{Obligation}
use Rattle.obligations.specs.Found.{IsDifferenceOf}
use Rattle.pair_decide.specs.declared.query.Query.{Query}
use Rattle.pair_decide.specs.Answers.{IsDifference}
use Rattle.pair_decide.specs.Queries.{assigned_to}
use Rattle.witness_report.specs.declared.witness.Witness.{Witness}
use Rattle.event_form.specs.Answers as form_answers
use Rattle.event_form.specs.Asked.{IsAskedOf}
use Rattle.event_form.proofs.Answers.{frames_of_differences}
use Rattle.event_form.specs.declared.event_findings.event_witness.unshown.UnshownFrame.{UnshownFrame}
use Rattle.event_form.specs.event_findings.event_witness.Sequences.{HasInputsBelow, IsWitnessOf, rows_at}
use Rattle.event_form.specs.event_findings.event_witness.Unshown.{IsUnshownOf}
use Rattle.event_form.proofs.event_findings.event_witness.Differing.{only_query, always_differences}
use Rattle.event_form.specs.event_findings.Compared.{IsEventDepth, AreCompared}
use Rattle.event_form.specs.event_findings.Findings.{IsSequenceOf, IsFrameOf}
use Rattle.event_form.specs.declared.event_findings.pairs.EventPairs.{EventPairs}
use Rattle.event_form.specs.event_findings.unshown_pairs.Reached.{BothReachAlways}
use Rattle.event_form.proofs.event_findings.unshown_pairs.Frames.{bits_told}

-- what makes a pair differ, by other names
differ_told : (a b : Circuit ℕ) (left right : List ℕ) (p q : ℕ) (rows told : List (List Bool)) (last cycle : ℕ) (l x r y : Bool) → rows ≡ told → last ≡ cycle → l ≡ x → r ≡ y → MakesDiffer a b left right p q rows last l r → MakesDiffer a b left right p q told cycle x y
differ_told a b left right p q rows told last cycle l x r y same_rows same_last same_left same_right h =
    subst (λ z. MakesDiffer a b left right p q told cycle x z) same_right
    (subst (λ z. MakesDiffer a b left right p q told cycle z r) same_left
    (subst (λ n. MakesDiffer a b left right p q told n l r) same_last (subst (λ (rs : List (List Bool)). MakesDiffer a b left right p q rs last l r) same_rows h)))

module _ (a b : EventCircuitView) (w : EventGraphView) (c : EventPairs) (kept : AreKept a b w) (classes : HasClasses (both_of a b)) (deep : LatchesHaveDepths (both_of a b).circuit (IsEnabled (both_of a b).circuit))
    (compared : AreCompared a b c) (p : SignalPair) (o : Obligation) (k : IsAskedOf (both_of a b) w c.cut p o) (place : ℕ) (bits : List Bool) (found : IsDifferenceOf w.graph o.queries place bits) where
  least : IsFrameDifference (both_of a b) w (Left p.left.0) (Right p.right.0) k.query bits
  least =
      let same : found.query ≡ k.query = only_query k.query o.queries place found.query k.only found.first.at in
      differences_least (both_of a b) w (Left p.left.0) (Right p.right.0) k.query bits kept.events k.asks (subst (λ (q : Query). IsDifference w.graph q bits) same found.differs)

  pub sequence_is : (i : ℕ) → slice_get c.pairs.now i ≡ Some p → BothReachAlways (both_of a b) p → (depth : ℕ) → IsEventDepth a b p depth → (x : Witness) → IsWitnessOf w k.query bits o.name depth c.names.now x → IsSequenceOf a b c.names.now p x
  sequence_is i at always depth far x is =
      let count = length c.names.now in
      let left_named = All-at (λ (z : SignalPair). HasInputsBelow (circuit_of a.net) a.order count z.left.0) c.pairs.now i p at compared.left_named in
      let right_named = All-at (λ (z : SignalPair). HasInputsBelow (circuit_of b.net) b.order count z.right.0) c.pairs.now i p at compared.right_named in
      let made = always_differences a b w c.cut p o place count far.left far.right bits kept classes deep compared.numbers left_named right_named k always.0 always.1 found far.left_is far.right_is in
      let same : made.0 ≡ k.query = only_query k.query o.queries place made.0 k.only made.1 in
      let last : max far.left far.right ≡ depth = sym far.greater in
      let rows : rows_at w made.0 bits (max far.left far.right) count ≡ x.stimulus.rows =
      ap (λ (q : Query). rows_at w q bits (max far.left far.right) count) same ∙ (ap (λ n. rows_at w k.query bits n count) last ∙ sym is.rows_are) in
      let left : value w.graph (assigned_to made.0.vars bits) made.0.left.0 ≡ x.left = ap (λ (q : Query). value w.graph (assigned_to q.vars bits) q.left.0) same ∙ sym is.sides.0 in
      let right : value w.graph (assigned_to made.0.vars bits) made.0.right.0 ≡ x.right = ap (λ (q : Query). value w.graph (assigned_to q.vars bits) q.right.0) same ∙ sym is.sides.1 in
      record {
        asked = least.asked;
        variables = variables_of w k.query.vars;
        bits = bits;
        difference = least.differs;
        left_value = is.sides.0 ∙ sym least.left;
        right_value = is.sides.1 ∙ sym least.right;
        cycle_is = subst (IsEventDepth a b p) (sym is.cycle_is) far;
        names_are = is.names_are;
        rows_are = is.rows_are ∙ ap (λ n. rows_at w k.query bits n count) (sym is.cycle_is);
        differ = differ_told (circuit_of a.net) (circuit_of b.net) a.order b.order p.left.0 p.right.0 (rows_at w made.0 bits (max far.left far.right) count) x.stimulus.rows (max far.left far.right) x.cycle
            (value w.graph (assigned_to made.0.vars bits) made.0.left.0) x.left (value w.graph (assigned_to made.0.vars bits) made.0.right.0) x.right rows (last ∙ sym is.cycle_is) left right made.2;
      }

  pub frame_is : (x : UnshownFrame) → IsUnshownOf w k.query bits o.name x → IsFrameOf a b p x
  frame_is x is =
      let f : form_answers.IsFrameOf (both_of a b) w p o.queries place bits = frames_of_differences (both_of a b) w c.cut p o place bits kept.events k found in
      let same : f.query ≡ k.query = only_query k.query o.queries place f.query k.only f.at in
      let Shown : Query → Type 0 = λ (q : Query). IsUnshownFrame (both_of a b) (Left p.left.0) (Right p.right.0) (variables_of w q.vars) bits (value w.graph (assigned_to q.vars bits) q.left.0) (value w.graph (assigned_to q.vars bits) q.right.0) in
      let shown : Shown k.query = subst Shown same f.shown in
      record {
        asked = least.asked;
        variables = variables_of w k.query.vars;
        bits = bits;
        shown = subst (λ l. IsUnshownFrame (both_of a b) (Left p.left.0) (Right p.right.0) (variables_of w k.query.vars) bits l x.right) (sym is.sides.0)
            (subst (λ r. IsUnshownFrame (both_of a b) (Left p.left.0) (Right p.right.0) (variables_of w k.query.vars) bits (value w.graph (assigned_to k.query.vars bits) k.query.left.0) r) (sym is.sides.1) shown);
        difference = least.differs;
        told = bits_told w k.query.vars bits x.frame.items is.frame_is;
      }
