-- The bits of a difference under an assumption give a sequence, which is a witness.
use Rattle.std.proofs.Common.{◌≡◌, ℕ, ◌<◌, ◌≤◌, Bool, false, List, length, map, slice_get, Some, sym, ◌∙◌, ap, subst, inl, inr}
use Rattle.std.specs.Prelude.{◌⊎◌}
use Rattle.std.specs.List.{All, AllZip, Contains}
use Rattle.std.proofs.lemmas.List.Elements.{All-contains}
use Rattle.std.proofs.lemmas.Option.{same_Some}
use Rattle.circuit_theory.specs.Query.{Variable, same_shift}
use Rattle.circuit_theory.specs.Sequence.{sequence_rows}
use Rattle.circuit_theory.proofs.Lists.{All-from_each, Contains-map, Contains-map_from, length-map, of_at, zip_right}
use Rattle.circuit_theory.proofs.Numbers.{slice_get-map}
use Rattle.flat_net.specs.View.{circuit_of}
use Rattle.cbf_unfold.proofs.unfold_places.Zips.{zip_left}
use Rattle.pair_decide.specs.declared.query.Query.{Query}
use Rattle.pair_decide.specs.Queries.{IsQuery}
use Rattle.pair_decide.specs.Answers.{IsDifference}
use Rattle.sec_base.specs.declared.basics.PairAnswer.{PairAnswer}
use Rattle.witness_report.specs.declared.witness.Witness.{Witness}
use Rattle.obligations.specs.declared.outcome.verdict.PairResult.{PairResult}
use Rattle.obligations.specs.declared.obligation.Obligation.{Obligation}
use Rattle.obligations.specs.declared.obligation.Difference.{Difference}
use Rattle.obligations.specs.Decided.{IsAnswered, IsFirstOf}
use Rattle.sec_setup.specs.declared.ports.pairs.SignalPair.{SignalPair}
use Rattle.sec_setup.specs.declared.setup.Setup.{Setup}
use Rattle.sec_setup.specs.ports.Pairs.{places_of}
use Rattle.cbf_unfold.specs.shift_variables.Sequences.{IsSequence, bits_at}
use Rattle.cbf_unfold.specs.shift_variables.Variables.{variable_of, variables_of}
use Rattle.assume_laws.specs.Assume.{Assumption}
use Rattle.assume_laws.specs.Sequences.{filled, IsWitnessUnder}
use Rattle.assume_laws.proofs.Meeting.{leaf_input, leaf_at}
use Rattle.assume_queries.specs.declared.assume_answers.order.VariableOrder.TheVariants as order
use Rattle.assume_queries.specs.assume_answers.Under.{IsUnder, IsObligationUnder, ReadsAtOne}
use Rattle.assume_queries.specs.assume_sequences.Filled.{bit_of}
use Rattle.plain_asked.specs.declared.functions.Functions.{Functions}
use Rattle.plain_asked.specs.Asked.{AskedOf}
use Rattle.plain_asked.proofs.Sequences.{is_sequence}
use Rattle.plain_asked.proofs.Sound.{AreSound, own_pairs}
use Rattle.plain_asked.proofs.PairQueries.{AsksPair, query_in_order}
use Rattle.plain_check.specs.asked_under.plain_asked_under.Laws.{AreBuilt}
use Rattle.plain_check.proofs.asked_under.Shown.{same_query}
use Rattle.obligations.proofs.Fits.{only_query}
use Rattle.plain_check.proofs.asked_under.plain_asked_under.PairsUnder.{pairs_fit_under}
use Rattle.plain_check.proofs.asked_under.plain_asked_under.Witnesses.{differences_show_under}
use Rattle.plain_check.specs.asked_under.plain_asked_under.Asked.{AreAskedUnder}
use Rattle.plain_check.specs.asked_under.plain_asked_under.Shown.{IsShowableUnder, IsWitnessAtUnder}
use Rattle.plain_check.specs.under_base.under_fits.Verdict.{IsFirstOfAnswerUnder}

-- the pair, the obligation and the query of a difference, without the assumption and under it
pub record IsPlaced (c : Assumption) (s : Setup) (f : Functions) (asked : List Obligation) (d : Difference) (u : Obligation) (r : Query) : Type 0 where
  pub pair : SignalPair
  pub plain : Obligation
  pub sides : Query
  pub pair_at : slice_get s.pairs d.pair ≡ Some pair
  pub plain_at : slice_get asked d.pair ≡ Some plain
  pub sides_at : slice_get plain.queries d.query ≡ Some sides
  pub asked_of : AskedOf s f pair plain
  pub under : IsObligationUnder order.Shifts c f.aig f.places plain u
  pub is : IsUnder order.Shifts c f.aig f.places sides r
  pub same : sides ≡ asked_of.queries_are.0

module _ (c : Assumption) (s : Setup) (f : Functions) (h : AreSound s f) (asked under : List Obligation) (meeting : List Bool) (are : AreAskedUnder s f asked under meeting c) where
  pub placed : (d : Difference) (u : Obligation) (r : Query) → slice_get under d.pair ≡ Some u → slice_get u.queries d.query ≡ Some r → IsPlaced c s f asked d u r
  placed d u r at_u at_r =
      let o = zip_left (IsObligationUnder order.Shifts c f.aig f.places) asked under are.under_are d.pair u at_u in
      let p = zip_left (AskedOf s f) s.pairs asked are.asked_are d.pair o.0 o.1 in
      let q = zip_left (IsUnder order.Shifts c f.aig f.places) o.0.queries u.queries o.2.queries d.query r at_r in
      record {
        pair = p.0;
        plain = o.0;
        sides = q.0;
        pair_at = p.1;
        plain_at = o.1;
        sides_at = q.1;
        asked_of = p.2;
        under = o.2;
        is = q.2;
        same = only_query p.2.queries_are.0 o.0.queries d.query q.0 p.2.queries_are.1 q.1;
      }

  module _ (d : Difference) (u : Obligation) (r : Query) (x : IsPlaced c s f asked d u r) where
    asks : AsksPair s.left.now s.right.now s.orders.left s.orders.right f.aig f.places x.pair.left.0 x.pair.right.0 x.asked_of.left_function x.asked_of.right_function x.asked_of.queries_are.0
    asks = record { graph = h.graph; distinct = h.distinct; values = h.values; left_is = x.asked_of.left_is; right_is = x.asked_of.right_is; asks = x.asked_of.queries_are.2 }

    member : Contains s.pairs x.pair
    member = of_at s.pairs d.pair x.pair x.pair_at

    -- the variables of the sides are of columns, at shifts up to the last
    plain_sequence : IsSequence f.places x.asked_of.queries_are.0.vars (map (λ (v : ℕ). false) x.asked_of.queries_are.0.vars) x.plain.size (length s.columns)
    plain_sequence =
        is_sequence asks h.left h.right x.plain.size x.asked_of.size_is s.columns h.setup.left_columns h.setup.right_columns ((own_pairs s h.setup).left x.pair member) ((own_pairs s h.setup).right x.pair member)
        (map (λ (v : ℕ). false) x.asked_of.queries_are.0.vars) (length-map (λ (v : ℕ). false) x.asked_of.queries_are.0.vars)

    pub sides_within : All (λ v. v < length f.places) x.sides.vars
    sides_within = subst (λ (q : Query). All (λ v. v < length f.places) q.vars) (sym x.same) (query_in_order asks).within

    -- and so are those of the query under the assumption
    side_reads : (w : ℕ) → Contains x.sides.vars w → ((variable_of f.places w).input < length s.columns) × ((variable_of f.places w).at ≤ x.plain.size)
    side_reads w m =
        let own : Contains x.asked_of.queries_are.0.vars w = subst (λ (q : Query). Contains q.vars w) x.same m in (
          All-contains (λ v. (variable_of f.places v).input < length s.columns) x.asked_of.queries_are.0.vars w plain_sequence.inputs own,
          All-contains (λ v. (variable_of f.places v).at ≤ x.plain.size) x.asked_of.queries_are.0.vars w plain_sequence.shifts own,
        )

    reads : (v : ℕ) → Contains r.vars v → ((variable_of f.places v).input < length s.columns) × ((variable_of f.places v).at ≤ x.plain.size)
    reads v inside = go ((x.is.exactly (variable_of f.places v)).0 (Contains-map (variable_of f.places) r.vars v inside))
      where
        go : Contains (variables_of f.places x.sides.vars) (variable_of f.places v) ⊎ ReadsAtOne c f.places x.sides.vars (variable_of f.places v) →
            ((variable_of f.places v).input < length s.columns) × ((variable_of f.places v).at ≤ x.plain.size)
        go (inl m) =
            let w = Contains-map_from (variable_of f.places) x.sides.vars (variable_of f.places v) m in
            subst (λ (y : Variable ℕ). (y.input < length s.columns) × (y.at ≤ x.plain.size)) w.2 (side_reads w.0 w.1)
        go (inr m) =
            let n = leaf_input c.circuit c.order _ (variable_of f.places v) m.3 m.4 in
            let e = leaf_at c.circuit c.order _ (variable_of f.places v) m.3 m.4 in
            (are.columns (variable_of f.places v).input n.0 n.1, subst (λ k. k ≤ x.plain.size) (sym e) (side_reads m.0 m.2).1)

    pub sequence : (bits : List Bool) → length bits ≡ length r.vars → IsSequence f.places r.vars bits u.size (length s.columns)
    sequence bits each = record {
      each = each;
      in_order = record { within = x.is.in_order.within; ordered = x.is.in_order.ordered };
      inputs = All-from_each (λ v. (variable_of f.places v).input < length s.columns) r.vars (λ v m. (reads v m).0);
      shifts = All-from_each (λ v. (variable_of f.places v).at ≤ u.size) r.vars (λ v m. subst (λ k. (variable_of f.places v).at ≤ k) (sym x.under.size_is) (reads v m).1);
    }

  built : AreBuilt f
  built = record { graph = h.graph; values = h.values; distinct = h.distinct }

  -- the bits of a difference give a sequence
  pub showable : (wanted : PairAnswer) (results : List PairResult) (d : Difference) → IsFirstOf f.aig under wanted results d → IsShowableUnder f s.columns asked under d
  showable wanted results d first =
      let u = first.obligation in
      let r = first.differs.query in
      let x = placed d u r first.asked_at first.differs.first.at in
      let queries = (pairs_fit_under c s f x.pair x.plain u built x.asked_of x.under).0 in
      let query : IsQuery f.aig r = All-contains (IsQuery f.aig) u.queries r queries (of_at u.queries d.query r first.differs.first.at) in
      record {
        plain = x.plain;
        obligation = u;
        sides = x.sides;
        query = r;
        asked_at = record { asked_at = x.plain_at; query_at = x.sides_at };
        under_at = record { asked_at = first.asked_at; query_at = first.differs.first.at };
        holds = record { within = sides_within d u r x; left = query.left; right = query.right; sequence = sequence d u r x d.bits first.differs.differs.each };
      }

  -- the first obligation with an answer is the first pair with it
  pub first_pair : (conflicts : ℕ) (results : List PairResult) (wanted : PairAnswer) (d : Difference) (w : Witness) → AllZip (IsAnswered f.aig conflicts) under results → IsFirstOf f.aig under wanted results d →
      IsWitnessAtUnder f s.columns asked under meeting d w →
      IsFirstOfAnswerUnder c (circuit_of s.left.now) (circuit_of s.right.now) s.orders.left s.orders.right s.columns (bit_of meeting) wanted (map places_of s.pairs) results w
  first_pair conflicts results wanted d w answered first shown =
      let u = shown.obligation in
      let r = shown.query in
      let x = placed d u r shown.under_at.asked_at shown.under_at.query_at in
      let same_r : first.differs.query ≡ r = sym (same_query {p = first.obligation} shown.under_at (record { asked_at = first.asked_at; query_at = first.differs.first.at })) in
      let same_o : shown.plain ≡ x.plain = same_Some shown.plain x.plain (sym shown.asked_at.asked_at ∙ x.plain_at) in
      let sides_at : slice_get x.plain.queries d.query ≡ Some shown.sides = ap (λ (y : Obligation). slice_get y.queries d.query) (sym same_o) ∙ shown.asked_at.query_at in
      let answer = zip_right (IsAnswered f.aig conflicts) under results answered d.pair u shown.under_at.asked_at in
      let result : answer.0 ≡ first.result = same_Some answer.0 first.result (sym answer.1 ∙ first.result_at) in
      let size : first.result.size ≡ u.size = ap (λ (y : PairResult). y.size) (sym result) ∙ answer.2.size_is in
      let member : Contains s.pairs x.pair = of_at s.pairs d.pair x.pair x.pair_at in
      let rows : w.stimulus.rows ≡ sequence_rows x.plain.size (filled same_shift (variables_of f.places shown.sides.vars) (bit_of meeting) (bits_at f.places r.vars d.bits)) (length s.columns) =
      shown.holds.rows_are ∙ ap (λ n. sequence_rows n (filled same_shift (variables_of f.places shown.sides.vars) (bit_of meeting) (bits_at f.places r.vars d.bits)) (length s.columns)) x.under.size_is in
      let is : IsWitnessUnder c (circuit_of s.left.now) (circuit_of s.right.now) s.orders.left s.orders.right x.pair.left.0 x.pair.right.0 (length s.columns) (bit_of meeting) w.stimulus.rows x.plain.size w.left w.right =
      differences_show_under c s f x.pair x.plain u built x.asked_of x.under h.setup h.left h.right ((own_pairs s h.setup).left x.pair member) ((own_pairs s h.setup).right x.pair member) are.columns d.query shown.sides r d.bits (bit_of meeting) w.stimulus.rows w.left w.right
      sides_at shown.under_at.query_at (subst (λ (q : Query). IsDifference f.aig q d.bits) same_r first.differs.differs) are.row rows shown.holds.left_is shown.holds.right_is in
      record {
        index = d.pair;
        place = places_of x.pair;
        result = first.result;
        place_is = slice_get-map places_of s.pairs d.pair x.pair x.pair_at;
        result_is = first.result_at;
        answered = first.answered;
        earlier = first.earlier;
        shown = record {
          named = shown.holds.pair_is ∙ (x.under.name_is ∙ x.asked_of.name_is);
          cycle_is = shown.holds.cycle_is ∙ sym size;
          names_are = shown.holds.names_are;
          witness =
              subst (λ n. IsWitnessUnder c (circuit_of s.left.now) (circuit_of s.right.now) s.orders.left s.orders.right x.pair.left.0 x.pair.right.0 (length s.columns) (bit_of meeting) w.stimulus.rows n w.left w.right)
              (sym (shown.holds.cycle_is ∙ x.under.size_is)) is;
        };
      }
