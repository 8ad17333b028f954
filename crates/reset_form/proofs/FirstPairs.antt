-- What is found of the obligations is what is found of the pairs.
use Rattle.std.proofs.Common.{◌≡◌, ℕ, ◌<◌, ◌≤◌, Bool, List, [], ◌∷◌, map, length, slice_get, Some, sym, ◌∙◌, ap, subst, arith, inl, inr}
use Rattle.std.specs.Prelude.{◌⊎◌}
use Rattle.std.specs.List.{All, AllZip, Contains}
use Rattle.std.proofs.lemmas.List.Elements.{All-nil, All-cons, All-map}
use Rattle.std.proofs.lemmas.Option.{same_Some}
use Rattle.circuit_theory.specs.Query.{Variable, bits_of, pair_query, same_shift}
use Rattle.circuit_theory.specs.Query as query
use Rattle.circuit_theory.proofs.Lists.{All-from_each, of_at, zip_right}
use Rattle.circuit_theory.proofs.Numbers.{slice_get-map}
use Rattle.sec_base.specs.declared.basics.PairAnswer.{PairAnswer}
use Rattle.sec_base.specs.declared.basics.PairAnswer.TheVariants as answer
use Rattle.flat_net.specs.View.{circuit_of}
use Rattle.circuit_laws.specs.reset_laws.Reset.{IsResetWitness}
use Rattle.cbf_unfold.specs.declared.unfold_places.signal_function.Unfolded.{Unfolded}
use Rattle.pair_decide.specs.declared.query.Query.{Query}
use Rattle.pair_decide.specs.Queries.{IsQuery}
use Rattle.pair_decide.specs.Answers.{IsDifference}
use Rattle.obligations.proofs.swept_queries.Listed.{zip_left}
use Rattle.obligations.specs.declared.outcome.verdict.PairResult.{PairResult}
use Rattle.obligations.specs.declared.obligation.Obligation.{Obligation}
use Rattle.obligations.specs.declared.obligation.Difference.{Difference}
use Rattle.obligations.specs.Decided.{IsAnswered, IsFirstOf}
use Rattle.sec_setup.specs.declared.ports.pairs.SignalPair.{SignalPair}
use Rattle.sec_setup.specs.declared.setup.Setup.{Setup}
use Rattle.sec_setup.specs.ports.Pairs.{outputs_of, places_of}
use Rattle.cbf_unfold.specs.shift_variables.Variables.{variable_of, variables_of}
use Rattle.witness_report.specs.declared.witness.PairName.{PairName}
use Rattle.reset_form.specs.declared.reset_functions.bases.Bases.{Bases}
use Rattle.reset_form.specs.declared.reset_functions.functions.Functions.{Functions}
use Rattle.obligations.specs.declared.outcome.verdict.ResetWitness.{ResetWitness}
use Rattle.reset_form.specs.reset_asked.Asked.{AskedOf, AreAsked}
use Rattle.reset_form.specs.reset_asked.Numbers.{numbered}
use Rattle.outcome_fits.specs.ResetOutcome.{PairFits, IsFirstDifference}
use Rattle.reset_form.specs.Shown.{IsShowable, IsWitnessOf, IsWitnessAt}
use Rattle.reset_form.proofs.reset_functions.OwnPairs.{ArePairsIn}
use Rattle.reset_form.proofs.reset_asked.Columns.{leaf_is}
use Rattle.reset_form.proofs.reset_asked.CycleQueries.{left_tree, right_tree, query_in_order, are_variables, each_variable, is_query, left_at_bits, right_at_bits, trees_differ, variables_long, least_is}
use Rattle.reset_form.proofs.reset_asked.Sound.{AreSound}
use Rattle.reset_form.proofs.reset_asked.PairCycles.{AsksIn, asks_at, agree_before, place_within, pair_fits, own_queries}

module _ (s : Setup) (b : Bases) (f : Functions) (h : AreSound s b f) where
  -- each result is that of its pair
  pub pairs_fit : (conflicts : ℕ) (pairs : List SignalPair) (asked : List Obligation) (results : List PairResult) → AreAsked s b f pairs asked → AllZip (IsAnswered f.aig conflicts) asked results →
      AllZip (PairFits (numbered s b) conflicts) (map places_of pairs) results
  pairs_fit conflicts [] [] [] are answered = tt
  pairs_fit conflicts [] [] (r ∷ results) are answered = absurd answered
  pairs_fit conflicts [] (o ∷ asked) results are answered = absurd are
  pairs_fit conflicts (p ∷ pairs) [] results are answered = absurd are
  pairs_fit conflicts (p ∷ pairs) (o ∷ asked) [] are answered = absurd answered
  pairs_fit conflicts (p ∷ pairs) (o ∷ asked) (r ∷ results) are answered = (pair_fits s b f h.functions p o are.0 conflicts r answered.0, pairs_fit conflicts pairs asked results are.1 answered.1)

  -- what is asked of pairs are queries over the graph
  pub queries_are : (pairs : List SignalPair) (asked : List Obligation) → AreAsked s b f pairs asked → All (λ (o : Obligation). All (IsQuery f.aig) o.queries) asked
  queries_are [] [] are = All-nil (λ (o : Obligation). All (IsQuery f.aig) o.queries)
  queries_are [] (o ∷ asked) are = absurd are
  queries_are (p ∷ pairs) [] are = absurd are
  queries_are (p ∷ pairs) (o ∷ asked) are = All-cons (λ (x : Obligation). All (IsQuery f.aig) x.queries) o asked (own_queries s b f h.functions p o are.0) (queries_are pairs asked are.1)

  -- the bits of a difference give a witness
  module _ (x : SignalPair) (left_shown : Contains (outputs_of s.left.now) x.left.0) (right_shown : Contains (outputs_of s.right.now) x.right.0) (cycle : ℕ) (l r : Unfolded) (q : Query) (k : AsksIn s b f x cycle l r q) where
    Own : Variable ℕ → Type 0
    Own y = (y.input < length s.columns) ⊎ (b.left ≤ y.input)

    above : (y : Variable ℕ) → (y.input < length s.columns) ⊎ (b.right ≤ y.input) → Own y
    unfolding Own
    above y (inl e) = inl e
    above y (inr e) = inr (let z = h.bases.right_is in omega (arith, e, z))

    inputs_within : All (λ v. (variable_of f.places v).input < length s.columns ⊎ (b.left ≤ (variable_of f.places v).input)) q.vars
    unfolding Own
    inputs_within =
        All-from_each (λ v. Own (variable_of f.places v)) q.vars
        (λ v m.
        each_variable k Own (λ y leaf. leaf_is s.left.now s.columns s.orders.left s.orders.right h.setup.left_columns b.left x.left.0 cycle (left_tree k) left_shown k.left_is.unfolds y leaf)
        (λ y leaf. above y (leaf_is s.right.now s.columns s.orders.right s.orders.left h.setup.right_columns b.right x.right.0 cycle (right_tree k) right_shown k.right_is.unfolds y leaf)) v m)

    pub is_witness : (bits : List Bool) (name : PairName) (w : ResetWitness) → IsDifference f.aig q bits → IsWitnessOf s b f q bits name cycle w →
        IsResetWitness (circuit_of s.left.now) (circuit_of s.right.now) s.orders.left s.orders.right b.left b.right x.left.0 x.right.0 (length s.columns) w.witness.stimulus.rows w.left_power w.right_power w.witness.cycle w.witness.left w.witness.right
    is_witness bits name w d is =
        subst (λ (last : ℕ). IsResetWitness (circuit_of s.left.now) (circuit_of s.right.now) s.orders.left s.orders.right b.left b.right x.left.0 x.right.0 (length s.columns) w.witness.stimulus.rows w.left_power w.right_power last w.witness.left w.witness.right) (sym is.sequence.cycle_is) (record {
          left_tree = left_tree k;
          right_tree = right_tree k;
          left_unfolds = k.left_is.unfolds;
          right_unfolds = k.right_is.unfolds;
          variables = variables_of f.places q.vars;
          are_variables = are_variables k;
          inputs = All-map (λ (y : Variable ℕ). (y.input < length s.columns) ⊎ (b.left ≤ y.input)) (variable_of f.places) q.vars inputs_within;
          bits = bits;
          each = d.each ∙ sym (variables_long k);
          distinguishes = trees_differ k bits d.distinguishes;
          least = λ few. least (omega (arith, few, variables_long k));
          rows_are = is.sequence.rows_are;
          left_power_is = is.left_power_is;
          right_power_is = is.right_power_is;
          left_value = is.sequence.left_is ∙ left_at_bits k bits;
          right_value = is.sequence.right_is ∙ right_at_bits k bits;
        })
      where
        least : length q.vars ≤ 16 → (number : ℕ) × (bits ≡ bits_of number (length (variables_of f.places q.vars))) × query.IsLeast same_shift (pair_query (left_tree k) (right_tree k)) (variables_of f.places q.vars) number
        least few =
            let m = d.least few in
            (m.0, m.1 ∙ ap (bits_of m.0) (sym (variables_long k)), least_is k m.0 m.2)

  module _ (pairs : List SignalPair) (asked : List Obligation) (own : ArePairsIn s pairs) (are : AreAsked s b f pairs asked) where
    -- the bits of a difference give a sequence and power-ups
    pub showable : (wanted : PairAnswer) (results : List PairResult) (d : Difference) → IsFirstOf f.aig asked wanted results d → IsShowable f asked d
    showable wanted results d first =
        let z = zip_left (AskedOf s b f) pairs asked are d.pair first.obligation first.asked_at in
        let at = first.differs.first.at in
        let k = asks_at s b f h.functions z.0 first.obligation z.2 d.query first.differs.query at in
        let q = is_query k.2 in
        record {
          shown = record {
            obligation = first.obligation;
            query = first.differs.query;
            at = record { asked_at = first.asked_at; query_at = at };
            left = q.left;
            right = q.right;
            each = first.differs.differs.each;
            in_order = query_in_order k.2;
          };
          cycle = place_within s b f h.functions z.0 first.obligation z.2 d.query first.differs.query at;
        }

    -- the first obligation that differs is the first pair that does
    pub first_pair : (conflicts : ℕ) (results : List PairResult) (d : Difference) (w : ResetWitness) → AllZip (IsAnswered f.aig conflicts) asked results → IsFirstOf f.aig asked answer.Different results d → IsWitnessAt s b f asked d w →
        IsFirstDifference (numbered s b) (map places_of pairs) results w
    first_pair conflicts results d w answered first shown =
        let o = first.obligation in
        let z = zip_left (AskedOf s b f) pairs asked are d.pair o first.asked_at in
        let p = z.0 in
        let member = of_at pairs d.pair p z.1 in
        let a = zip_right (IsAnswered f.aig conflicts) asked results answered d.pair o first.asked_at in
        let r : a.0 ≡ first.result = same_Some a.0 first.result (sym a.1 ∙ first.result_at) in
        let size : first.result.size ≡ o.size = ap (λ (x : PairResult). x.size) (sym r) ∙ a.2.size_is in
        let q = first.differs.query in
        let at = first.differs.first.at in
        let k = asks_at s b f h.functions p o z.2 d.query q at in
        let le = place_within s b f h.functions p o z.2 d.query q at in
        let same_o : shown.obligation ≡ o = same_Some shown.obligation o (sym shown.at.asked_at ∙ first.asked_at) in
        let at_o : slice_get o.queries d.query ≡ Some shown.query = ap (λ (x : Obligation). slice_get x.queries d.query) (sym same_o) ∙ shown.at.query_at in
        let same_q : shown.query ≡ q = same_Some shown.query q (sym at_o ∙ at) in
        let is : IsWitnessOf s b f q d.bits o.name d.query w =
        subst (λ (y : Query). IsWitnessOf s b f y d.bits o.name d.query w) same_q (subst (λ (x : Obligation). IsWitnessOf s b f shown.query d.bits x.name d.query w) same_o shown.is) in
        record {
          index = d.pair;
          place = places_of p;
          result = first.result;
          place_is = slice_get-map places_of pairs d.pair p z.1;
          result_is = first.result_at;
          answered = first.answered;
          earlier = first.earlier;
          shown = record {
            named = is.sequence.pair_is ∙ z.2.name_is;
            names_are = is.sequence.names_are;
            cycle_is = (let e = is.sequence.cycle_is in omega (arith, e, le, size), (λ t below. agree_before s b f h.functions p o z.2 d.query q first.differs.first t (let e = is.sequence.cycle_is in omega (arith, below, e))));
            witness = is_witness p (own.left p member) (own.right p member) d.query k.0 k.1 q k.2 d.bits o.name w first.differs.differs is;
          };
        }
