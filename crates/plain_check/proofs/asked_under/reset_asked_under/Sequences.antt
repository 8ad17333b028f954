-- The bits of a difference under an assumption give a sequence and power-ups, which are a witness.
use Rattle.std.proofs.Common.{◌≡◌, ℕ, ◌<◌, ◌≤◌, Bool, List, [], ◌∷◌, length, map, slice_get, Some, sym, ◌∙◌, ap, subst, arith, inl, inr}
use Rattle.std.specs.Prelude.{◌⊎◌}
use Rattle.std.specs.List.{All, AllZip, Contains}
use Rattle.std.proofs.lemmas.List.Elements.{All-contains}
use Rattle.std.proofs.lemmas.Option.{same_Some}
use Rattle.circuit_theory.specs.Query.{Variable, HasLeaf}
use Rattle.circuit_theory.specs.Tree.{Tree}
use Rattle.circuit_theory.proofs.Lists.{All-from_each, Contains-cases, of_at, only, zip_right}
use Rattle.circuit_theory.proofs.Numbers.{slice_get-map}
use Rattle.flat_net.specs.View.{circuit_of}
use Rattle.cbf_unfold.proofs.unfold_places.Zips.{zip_left}
use Rattle.aig.specs.declared.node.Lit.{Lit}
use Rattle.aig.specs.Values.{value}
use Rattle.pair_decide.specs.declared.query.Query.{Query}
use Rattle.pair_decide.specs.Queries.{IsQuery, assigned_to}
use Rattle.pair_decide.specs.Answers.{IsDifference}
use Rattle.sec_base.specs.declared.basics.PairAnswer.{PairAnswer}
use Rattle.sec_base.specs.declared.basics.PairAnswer.TheVariants as answer
use Rattle.obligations.specs.declared.outcome.verdict.PairResult.{PairResult}
use Rattle.obligations.specs.declared.outcome.verdict.ResetWitness.{ResetWitness}
use Rattle.obligations.specs.declared.obligation.Obligation.{Obligation}
use Rattle.obligations.specs.declared.obligation.Difference.{Difference}
use Rattle.obligations.specs.Decided.{IsAnswered, IsFirstOf}
use Rattle.sec_setup.specs.declared.ports.pairs.SignalPair.{SignalPair}
use Rattle.sec_setup.specs.declared.setup.Setup.{Setup}
use Rattle.sec_setup.specs.ports.Pairs.{places_of}
use Rattle.cbf_unfold.specs.shift_variables.Sequences.{bits_at}
use Rattle.cbf_unfold.specs.shift_variables.Variables.{variables_of}
use Rattle.cbf_unfold.proofs.shift_variables.Assignments.{assigned_alike}
use Rattle.assume_laws.specs.Assume.{Assumption}
use Rattle.assume_laws.specs.Sequences.{IsResetWitnessUnder}
use Rattle.assume_laws.proofs.Meeting.{leaf_input}
use Rattle.assume_queries.specs.declared.assume_answers.order.VariableOrder.TheVariants as order
use Rattle.assume_queries.specs.assume_answers.Under.{IsObligationUnder, ReadsAtOne}
use Rattle.assume_queries.specs.assume_answers.Laws.{AsksUnder}
use Rattle.assume_queries.proofs.assume_answers.Pairs.{answers_under}
use Rattle.assume_queries.specs.assume_sequences.Filled.{bit_of}
use Rattle.reset_form.specs.declared.reset_functions.bases.Bases.{Bases}
use Rattle.reset_form.specs.declared.reset_functions.functions.Functions.{Functions}
use Rattle.reset_form.proofs.reset_functions.OwnPairs.{own_pairs}
use Rattle.reset_form.specs.reset_asked.Asked.{AskedOf}
use Rattle.reset_form.specs.reset_asked.Numbers.{numbered}
use Rattle.reset_form.proofs.reset_asked.Columns.{leaf_is}
use Rattle.reset_form.proofs.reset_asked.CycleQueries.{left_tree, right_tree, query_in_order, are_variables, left_value, right_value, is_query}
use Rattle.reset_form.proofs.reset_asked.Sound.{AreSound}
use Rattle.plain_check.specs.asked_under.reset_asked_under.Asked.{AreAskedUnder}
use Rattle.plain_check.specs.asked_under.reset_asked_under.Shown.{IsShowableUnder, IsFilledWitness, IsWitnessAtUnder}
use Rattle.plain_check.specs.under_base.under_fits.ResetVerdict.{IsFirstDifferenceUnder}
use Rattle.plain_check.proofs.asked_under.Shown.{holds_there}
use Rattle.plain_check.proofs.asked_under.reset_asked_under.PairCycles.{IsIn, is_in, own_queries, agree_before}

-- the pair, the obligation and the query of a difference, without the assumption and under it
pub record IsPlaced (c : Assumption) (s : Setup) (b : Bases) (f : Functions) (asked : List Obligation) (d : Difference) (u : Obligation) (r : Query) : Type 0 where
  pub pair : SignalPair
  pub plain : Obligation
  pub pair_at : slice_get s.pairs d.pair ≡ Some pair
  pub plain_at : slice_get asked d.pair ≡ Some plain
  pub asked_of : AskedOf s b f pair plain
  pub under : IsObligationUnder order.Cycles c f.aig f.places plain u
  pub query : IsIn c s b f pair plain d.query r

module _ (c : Assumption) (s : Setup) (b : Bases) (f : Functions) (h : AreSound s b f) (asked under : List Obligation) (meeting : List Bool) (are : AreAskedUnder s b f asked under meeting c) where
  pub placed : (d : Difference) (u : Obligation) (r : Query) → slice_get under d.pair ≡ Some u → slice_get u.queries d.query ≡ Some r → IsPlaced c s b f asked d u r
  placed d u r at_u at_r =
      let o = zip_left (IsObligationUnder order.Cycles c f.aig f.places) asked under are.under_are d.pair u at_u in
      let p = zip_left (AskedOf s b f) s.pairs asked are.asked_are d.pair o.0 o.1 in
      record { pair = p.0; plain = o.0; pair_at = p.1; plain_at = o.1; asked_of = p.2; under = o.2; query = is_in c s b f h.functions p.0 o.0 u p.2 o.2 d.query r at_r }

  module _ (d : Difference) (u : Obligation) (r : Query) (x : IsPlaced c s b f asked d u r) where
    asks : AsksUnder order.Cycles c f.aig f.places (left_tree x.query.asks) (right_tree x.query.asks) x.query.sides r
    asks = record {
      asked = is_query x.query.asks;
      distinct = h.functions.distinct;
      sides = are_variables x.query.asks;
      left_value = left_value x.query.asks;
      right_value = right_value x.query.asks;
      under = x.query.is;
    }

    member : Contains s.pairs x.pair
    member = of_at s.pairs d.pair x.pair x.pair_at

    Own : Variable ℕ → Type 0
    Own y = (y.input < length s.columns) ⊎ (b.left ≤ y.input)

    above : (y : Variable ℕ) → (y.input < length s.columns) ⊎ (b.right ≤ y.input) → Own y
    unfolding Own
    above y (inl e) = inl e
    above y (inr e) = inr (let z = h.bases.right_is in omega (arith, e, z))

    -- a variable of one of both sides is a column or a latch
    side_reads : (y : Variable ℕ) (tree : Tree ℕ) → (left_tree x.query.asks ≡ tree) ⊎ Contains (right_tree x.query.asks ∷ []) tree → HasLeaf y tree → Own y
    unfolding Own
    side_reads y tree (inl e) stands =
        leaf_is s.left.now s.columns s.orders.left s.orders.right h.setup.left_columns b.left x.pair.left.0 d.query (left_tree x.query.asks) ((own_pairs s h.setup).left x.pair member) x.query.asks.left_is.unfolds y (subst (HasLeaf y) (sym e) stands)
    side_reads y tree (inr n) stands =
        above y
        (leaf_is s.right.now s.columns s.orders.right s.orders.left h.setup.right_columns b.right x.pair.right.0 d.query (right_tree x.query.asks) ((own_pairs s h.setup).right x.pair member) x.query.asks.right_is.unfolds y
        (subst (HasLeaf y) (sym (only (right_tree x.query.asks) tree n)) stands))

    -- and one of the assumption a column
    reads : (y : Variable ℕ) → Contains (variables_of f.places x.query.sides.vars) y ⊎ ReadsAtOne c f.places x.query.sides.vars y → Own y
    unfolding Own
    reads y (inl m) = let l = ((are_variables x.query.asks).exactly y).0 m in side_reads y l.0 (Contains-cases (left_tree x.query.asks) l.0 (right_tree x.query.asks ∷ []) l.1) l.2
    reads y (inr m) = let n = leaf_input c.circuit c.order _ y m.3 m.4 in inl (are.columns y.input n.0 n.1)

    inputs : All (λ (y : Variable ℕ). (y.input < length s.columns) ⊎ (b.left ≤ y.input)) (variables_of f.places r.vars)
    unfolding Own
    inputs = All-from_each (λ (y : Variable ℕ). (y.input < length s.columns) ⊎ (b.left ≤ y.input)) (variables_of f.places r.vars) (λ y m. reads y ((x.query.is.exactly y).0 m))

    pub sides_within : All (λ v. v < length f.places) x.query.sides.vars
    sides_within = (query_in_order x.query.asks).within

    takes : (bits : List Bool) (v : ℕ) (e : ℕ × ℕ) → slice_get f.places v ≡ Some e → assigned_to r.vars bits v ≡ bits_at f.places r.vars bits e.0 e.1
    takes bits v e there = assigned_alike f.places r.vars bits h.functions.distinct x.query.is.in_order.within v e there

    -- the sequence and the power-ups are a witness
    pub is_witness : (w : ResetWitness) → IsDifference f.aig r d.bits → IsFilledWitness s b f meeting u x.query.sides r d w →
        IsResetWitnessUnder c (circuit_of s.left.now) (circuit_of s.right.now) s.orders.left s.orders.right b.left b.right x.pair.left.0 x.pair.right.0 (length s.columns) (bit_of meeting) w.witness.stimulus.rows w.left_power w.right_power w.witness.cycle w.witness.left w.witness.right
    is_witness w difference is =
        subst (λ (last : ℕ). IsResetWitnessUnder c (circuit_of s.left.now) (circuit_of s.right.now) s.orders.left s.orders.right b.left b.right x.pair.left.0 x.pair.right.0 (length s.columns) (bit_of meeting) w.witness.stimulus.rows w.left_power w.right_power last w.witness.left w.witness.right)
        (sym is.sequence.cycle_is) (record {
          left_tree = left_tree x.query.asks;
          right_tree = right_tree x.query.asks;
          left_unfolds = x.query.asks.left_is.unfolds;
          right_unfolds = x.query.asks.right_is.unfolds;
          sides = variables_of f.places x.query.sides.vars;
          variables = variables_of f.places r.vars;
          bits = d.bits;
          difference = (answers_under order.Cycles c f.aig f.places (left_tree x.query.asks) (right_tree x.query.asks) x.query.sides r asks).2 d.bits difference;
          inputs = inputs;
          meeting_is = are.row;
          rows_are = is.sequence.rows_are;
          left_power_is = is.left_power_is;
          right_power_is = is.right_power_is;
          left_value = is.sequence.left_is ∙ (ap (λ (l : Lit). value f.aig (assigned_to r.vars d.bits) l.0) x.query.is.left_is ∙ left_value x.query.asks (bits_at f.places r.vars d.bits) (assigned_to r.vars d.bits) (takes d.bits));
          right_value = is.sequence.right_is ∙ (ap (λ (l : Lit). value f.aig (assigned_to r.vars d.bits) l.0) x.query.is.right_is ∙ right_value x.query.asks (bits_at f.places r.vars d.bits) (assigned_to r.vars d.bits) (takes d.bits));
        })

  -- the bits of a difference give a sequence and power-ups
  pub showable : (wanted : PairAnswer) (results : List PairResult) (d : Difference) → IsFirstOf f.aig under wanted results d → IsShowableUnder f asked under d
  showable wanted results d first =
      let u = first.obligation in
      let r = first.differs.query in
      let x = placed d u r first.asked_at first.differs.first.at in
      let query : IsQuery f.aig r = All-contains (IsQuery f.aig) u.queries r (own_queries c s b f h.functions x.pair x.plain u x.asked_of x.under) (of_at u.queries d.query r first.differs.first.at) in
      record {
        plain = x.plain;
        obligation = u;
        sides = x.query.sides;
        query = r;
        asked_at = record { asked_at = x.plain_at; query_at = x.query.sides_at };
        under_at = record { asked_at = first.asked_at; query_at = first.differs.first.at };
        holds = record {
          within = sides_within d u r x;
          left = query.left;
          right = query.right;
          each = first.differs.differs.each;
          in_order = record { within = x.query.is.in_order.within; ordered = x.query.is.in_order.ordered };
          cycle = let le = x.query.within in let e = x.under.size_is in omega (arith, le, e);
        };
      }

  -- the first obligation that differs is the first pair that does
  pub first_pair : (conflicts : ℕ) (results : List PairResult) (d : Difference) (w : ResetWitness) → AllZip (IsAnswered f.aig conflicts) under results → IsFirstOf f.aig under answer.Different results d → IsWitnessAtUnder s b f asked under meeting d w →
      IsFirstDifferenceUnder c (numbered s b) (bit_of meeting) (map places_of s.pairs) results w
  first_pair conflicts results d w answered first shown =
      let u = first.obligation in
      let r = first.differs.query in
      let x = placed d u r first.asked_at first.differs.first.at in
      let a = zip_right (IsAnswered f.aig conflicts) under results answered d.pair u first.asked_at in
      let result : a.0 ≡ first.result = same_Some a.0 first.result (sym a.1 ∙ first.result_at) in
      let size : first.result.size ≡ u.size = ap (λ (y : PairResult). y.size) (sym result) ∙ a.2.size_is in
      let is : IsFilledWitness s b f meeting u x.query.sides r d w =
      holds_there (λ (o : Obligation) (sides query : Query). IsFilledWitness s b f meeting o sides query d w) {p = x.plain} shown (record { asked_at = x.plain_at; query_at = x.query.sides_at })
      (record { asked_at = first.asked_at; query_at = first.differs.first.at }) in
      let cycle = is.sequence.cycle_is in
      let le = x.query.within in
      let depth = x.under.size_is in
      record {
        index = d.pair;
        place = places_of x.pair;
        result = first.result;
        place_is = slice_get-map places_of s.pairs d.pair x.pair x.pair_at;
        result_is = first.result_at;
        answered = first.answered;
        earlier = first.earlier;
        shown = record {
          named = is.sequence.pair_is ∙ (x.under.name_is ∙ x.asked_of.name_is);
          names_are = is.sequence.names_are;
          cycle_is = (omega (arith, cycle, le, depth, size), (λ t below. agree_before c s b f h.functions x.pair x.plain u x.asked_of x.under d.query r first.differs.first t (omega (arith, below, cycle))));
          witness = is_witness d u r x w first.differs.differs is;
        };
      }
