-- What differs under an assumption can be shown, also while the event graph grows.
use Rattle.std.proofs.Common.{◌≡◌, ◌∙◌, ◌<◌, ◌≤◌, ℕ, Bool, List, length, get_or, slice_get, Some, refl, sym, ap, subst, arith, length-append}
use Rattle.std.specs.List.{All, Contains}
use Rattle.std.proofs.lemmas.List.Elements.{All-weaker}
use Rattle.std.proofs.lemmas.Option.{same_Some, slice_get-get_or, slice_get_within}
use Rattle.circuit_theory.specs.Joined.{Left, Right}
use Rattle.circuit_theory.specs.Query.{Variable}
use Rattle.circuit_theory.specs.Sequence.{sequence_rows}
use Rattle.circuit_theory.proofs.Lists.{All-from_each, at_of, length-map, of_at}
use Rattle.circuit_theory.specs.Frame.{bits_as_shifts}
use Rattle.flat_net.proofs.Nets.{some_at}
use Rattle.flat_net.proofs.Places.{All-at}
use Rattle.pair_decide.specs.declared.query.Query.{Query}
use Rattle.pair_decide.specs.Queries.{IsQuery}
use Rattle.sec_setup.specs.declared.ports.pairs.SignalPair.{SignalPair}
use Rattle.obligations.specs.declared.obligation.Difference.{Difference}
use Rattle.obligations.specs.declared.obligation.Obligation.{Obligation}
use Rattle.obligations.specs.Decided.{IsFirstOf}
use Rattle.witness_report.specs.declared.witness.Witness.{Witness}
use Rattle.event_nodes.specs.Nodes.{EventGraphView, IsEventGraph, GrowsEvents}
use Rattle.event_nodes.specs.event_variables.Variables.{variables_of}
use Rattle.event_form.proofs.event_agreement.PairQueries.{within}
use Rattle.event_form.specs.event_agreement.pair_events.View.{EventsView, side_of_both}
use Rattle.event_form.proofs.event_agreement.event_pairs.Growing.{variables_stay}
use Rattle.event_nodes.specs.event_variables.ranked_nodes.Named.{path_at}
use Rattle.event_form.specs.Asked.{IsPairOf}
use Rattle.event_comparison.specs.Shown.{OfPair}
use Rattle.event_form.specs.declared.event_findings.event_witness.unshown.UnshownFrame.{UnshownFrame}
use Rattle.event_form.specs.declared.event_findings.pairs.EventPairs.{EventPairs}
use Rattle.event_form.specs.event_findings.unshown_pairs.Told.{TellsBits}
use Rattle.event_form.proofs.event_findings.event_witness.Differing.{only_query}
use Rattle.event_form.proofs.event_findings.unshown_pairs.Frames.{bits_told}
use Rattle.assume_laws.specs.Sequences.{filled_frame}
use Rattle.assume_queries.specs.assume_sequences.Filled.{bit_of}
use Rattle.event_under.specs.Asked.{IsAskedUnder}
use Rattle.event_under.specs.declared.event_asked_under.asked.EventQuestions.{EventQuestions}
use Rattle.event_under.specs.event_asked_under.Questions.{named_at}
use Rattle.event_under.specs.event_under_form.event_witness_under.Ready.{IsReadyAt, IsShowableUnder}
use Rattle.event_under.specs.event_under_form.event_witness_under.Shown.{HasSides, IsFrameOf, IsSequenceAt}
use Rattle.event_under.specs.declared.event_under_form.event_witness_under.ready.ReadyDifference.{ReadyDifference}
use Rattle.event_under.specs.event_under_form.event_under_verdicts.Shown.{AreQuestions, IsFrameAtUnder, IsWitnessUnder}
use Rattle.event_under.specs.event_under_form.Asked.{CanShow, DiffersAt}
use Rattle.event_under.specs.declared.event_under_form.verdict.Shows.{Shows}

-- what is asked of a pair under the assumption, where it differs
module _ (e : EventsView) (c : EventPairs) (asked : List Obligation) (x : EventQuestions) (q : AreQuestions e c asked x) (d : Difference) (differs : DiffersAt x d) where
  abbrev first : IsFirstOf x.aig x.asked.items differs.0 differs.1 d
  first = differs.2

  pub difference_within : d.pair < length c.pairs.now
  difference_within = let inside = slice_get_within x.asked.items d.pair first.obligation first.asked_at in let many = q.under.each_under in omega (arith, inside, many)

  -- it stands at the pair's place
  pub record HasPair : Type 0 where
    pub pair : SignalPair
    pub plain : Obligation
    pub pair_at : slice_get c.pairs.now d.pair ≡ Some pair
    pub plain_at : slice_get asked d.pair ≡ Some plain
    pub asks : IsAskedUnder q.assumption (side_of_both e) e.events x.aig (named_at e.events.children x) c.cut pair plain first.obligation

  pub pair_of : HasPair
  pair_of =
      let p = some_at c.pairs.now d.pair difference_within in
      let many = q.under.each_asked in
      let inside = difference_within in
      let o = some_at asked d.pair (omega (arith, inside, many)) in
      record { pair = p.0; plain = o.0; pair_at = p.1; plain_at = o.1; asks = q.under.are d.pair p.0 o.0 first.obligation p.1 o.1 first.asked_at }

  module _ (h : HasPair) (graph : IsEventGraph e.events) where
    query_is : first.differs.query ≡ h.asks.query
    query_is = only_query h.asks.query first.obligation.queries d.query first.differs.query h.asks.only first.differs.first.at

    query_within : All (λ v. v < length x.places) h.asks.query.vars
    query_within = subst (λ k. All (λ v. v < k) h.asks.query.vars) (length-map (λ (p : ℕ × ℕ). (p.0, path_at e.events.children x.ranked.nodes p.1)) x.places) h.asks.asks.within

    pub is_showable : IsShowableUnder e.events x d
    is_showable = record {
      obligation = first.obligation;
      query = first.differs.query;
      asked_at = first.asked_at;
      query_at = first.differs.first.at;
      is_query = subst (IsQuery x.aig) (sym query_is) h.asks.asks.asked;
      within = subst (λ (y : Query). All (λ v. v < length x.places) y.vars) (sym query_is) query_within;
      each = first.differs.differs.each;
      nodes = All-from_each (λ n. n ≤ length e.events.children) x.ranked.nodes (λ n k. (let i = at_of x.ranked.nodes n k in q.ranked.within i.0 n i.1));
    }

    sides_within : All (λ v. v < length e.events.places) h.asks.plain.query.vars
    sides_within = within (side_of_both e) e.events (Left h.pair.left.0) (Right h.pair.right.0) h.asks.plain.query graph h.asks.plain.asks

    -- the variables of both sides stand in a greater graph, too
    module _ (v : EventGraphView) (grows : GrowsEvents e.events v) where
      more : length e.events.places ≤ length v.places
      more = let same = ap length grows.places.1 in let long = length-append e.events.places grows.places.0 in omega (arith, same, long)

      pub sides_there : length c.depths.now ≡ length asked → HasSides v c asked d
      sides_there deep = record {
        obligation = h.plain;
        sides = h.asks.plain.query;
        asked_at = h.plain_at;
        sides_at = subst (λ (qs : List Query). slice_get qs 0 ≡ Some h.asks.plain.query) (sym h.asks.plain.only) refl;
        within = All-weaker (λ (u : ℕ). u < length e.events.places) (λ (u : ℕ). u < length v.places) (λ u low. omega (arith, low, more)) h.asks.plain.query.vars sides_within;
        depth = (let inside = slice_get_within asked d.pair h.plain h.plain_at in omega (arith, inside, deep));
      }

      -- where they are the same
      pub sides_stay : IsEventGraph v → (o : Obligation) (s : Query) → slice_get asked d.pair ≡ Some o → slice_get o.queries 0 ≡ Some s → variables_of v s.vars ≡ variables_of e.events s.vars
      sides_stay then o s asked_at sides_at =
          let same_o : o ≡ h.plain = same_Some o h.plain (sym asked_at ∙ h.plain_at) in
          let own_at : slice_get h.plain.queries 0 ≡ Some s = subst (λ (y : Obligation). slice_get y.queries 0 ≡ Some s) same_o sides_at in
          let same_s : s ≡ h.asks.plain.query = only_query h.asks.plain.query h.plain.queries 0 s h.asks.plain.only own_at in
          variables_stay e.events v graph then grows s.vars (subst (λ (y : Query). All (λ u. u < length e.events.places) y.vars) (sym same_s) sides_within)

  -- what holds of the pair that is read holds of the pair of the difference
  module _ (read : SignalPair) where
    pub pair_at : slice_get c.pairs.now d.pair ≡ Some (get_or c.pairs.now d.pair read)
    pair_at = slice_get-get_or c.pairs.now d.pair read difference_within

    pub pair_there : Contains c.pairs.now (get_or c.pairs.now d.pair read)
    pair_there = of_at c.pairs.now d.pair (get_or c.pairs.now d.pair read) pair_at

    pub pair_is : All (IsPairOf e) c.pairs.now → IsPairOf e (get_or c.pairs.now d.pair read)
    pair_is pairs = All-at (IsPairOf e) c.pairs.now d.pair (get_or c.pairs.now d.pair read) pair_at pairs

    pub of_pair : (P : SignalPair → Type 0) → P (get_or c.pairs.now d.pair read) → OfPair c d P
    of_pair P h p at = subst P (same_Some (get_or c.pairs.now d.pair read) p (sym pair_at ∙ at)) h

-- what differs can be made ready
pub can_show : (e : EventsView) (c : EventPairs) (s : Shows) → CanShow e c s → IsEventGraph e.events → (d : Difference) → DiffersAt s.questions.now d → (w : EventGraphView) → w ≡ e.events → IsShowableUnder w s.questions.now d
can_show e c s from graph d differs w same =
    subst (λ (y : EventGraphView). IsShowableUnder y s.questions.now d) (sym same)
    (is_showable e c s.asked.now s.questions.now from.questions d differs (pair_of e c s.asked.now s.questions.now from.questions d differs) graph)

-- and its sequence be made, also over a greater graph
pub can_make : (e : EventsView) (c : EventPairs) (s : Shows) → CanShow e c s → IsEventGraph e.events → (d : Difference) → DiffersAt s.questions.now d → (v : EventGraphView) → GrowsEvents e.events v → (w : EventGraphView) → w ≡ v → HasSides w c s.asked.now d
can_make e c s from graph d differs v grows w same =
    subst (λ (y : EventGraphView). HasSides y c s.asked.now d) (sym same)
    (sides_there e c s.asked.now s.questions.now from.questions d differs (pair_of e c s.asked.now s.questions.now from.questions d differs) graph v grows from.plain.depths)

-- the sequence over it is that of the difference
pub sequence_shown : (e : EventsView) (c : EventPairs) (s : Shows) → CanShow e c s → IsEventGraph e.events → (d : Difference) → DiffersAt s.questions.now d → (v : EventGraphView) → IsEventGraph v → GrowsEvents e.events v → (y : ReadyDifference) → IsReadyAt e.events s.questions.now d y →
    (z : Witness) → IsSequenceAt v c s.asked.now s.meeting.now d y z → IsWitnessUnder e.events c s.asked.now s.questions.now (bit_of s.meeting.now) d z
sequence_shown e c s from graph d differs v then grows y r z t = record {
  plain = t.obligation;
  under = r.obligation;
  sides = t.sides;
  query = r.query;
  at = record { asked_at = t.asked_at; own_at = t.sides_at; under_at = r.asked_at; query_at = r.query_at };
  depth_at = subst (λ n. slice_get c.depths.now d.pair ≡ Some n) (sym t.is.cycle_is) t.depth_at;
  pair_is = t.is.pair_is ∙ r.is.pair_is;
  values = (t.is.left_is ∙ r.is.values.0, t.is.right_is ∙ r.is.values.1);
  names_are = t.is.names_are;
  rows_are = t.is.rows_are ∙ (
      ap (λ n. Rows n (variables_of v t.sides.vars) (variables_of y.made.events y.made.vars.items)) (sym t.is.cycle_is)
      ∙ (ap (λ (vs : List (Variable (List ℕ))). Rows z.cycle vs (variables_of y.made.events y.made.vars.items)) stay ∙ ap (λ (vs : List (Variable (List ℕ))). Rows z.cycle (variables_of e.events t.sides.vars) vs) r.is.variables)
      );
}
  where
    Rows : ℕ → List (Variable (List ℕ)) → List (Variable (List ℕ)) → List (List Bool)
    Rows n sides vars = sequence_rows n (bits_as_shifts (filled_frame sides vars (bit_of s.meeting.now) d.bits)) (length c.names.now)

    stay : variables_of v t.sides.vars ≡ variables_of e.events t.sides.vars
    stay = sides_stay e c s.asked.now s.questions.now from.questions d differs (pair_of e c s.asked.now s.questions.now from.questions d differs) graph v grows then t.obligation t.sides t.asked_at t.sides_at

-- and so is the frame
pub frame_shown : (w : EventGraphView) (x : EventQuestions) (d : Difference) (y : ReadyDifference) → IsReadyAt w x d y → (z : UnshownFrame) → IsFrameOf d.bits y z → IsFrameAtUnder w x d z
frame_shown w x d y r z t = record {
  under = r.obligation;
  query = r.query;
  under_at = r.asked_at;
  query_at = r.query_at;
  pair_is = t.pair_is ∙ r.is.pair_is;
  values = (t.left_is ∙ r.is.values.0, t.right_is ∙ r.is.values.1);
  told = subst (λ (vs : List (Variable (List ℕ))). TellsBits vs d.bits z.frame.items) r.is.variables (bits_told y.made.events y.made.vars.items d.bits z.frame.items t.told);
}
