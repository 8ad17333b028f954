-- What is found of the obligations is what is found of the pairs.
use Rattle.std.proofs.Common.{◌≡◌, ℕ, List, [], ◌∷◌, map, slice_get, Some, sym, ◌∙◌, ap, subst, inl, inr}
use Rattle.std.specs.List.{AllZip}
use Rattle.std.proofs.lemmas.Option.{same_Some}
use Rattle.circuit_theory.proofs.Lists.{of_at, zip_right}
use Rattle.circuit_theory.proofs.Numbers.{slice_get-map}
use Rattle.sec_base.specs.declared.basics.PairAnswer.{PairAnswer}
use Rattle.flat_net.specs.View.{circuit_of}
use Rattle.pair_decide.specs.declared.query.Query.{Query}
use Rattle.pair_decide.specs.Queries.{IsQuery}
use Rattle.pair_decide.specs.Answers.{IsDifference}
use Rattle.swept_queries.proofs.Listed.{zip_left}
use Rattle.witness_report.specs.declared.witness.Witness.{Witness}
use Rattle.obligations.specs.declared.outcome.verdict.PairResult.{PairResult}
use Rattle.obligations.specs.declared.obligation.Obligation.{Obligation}
use Rattle.obligations.specs.declared.obligation.Difference.{Difference}
use Rattle.obligations.specs.Decided.{IsAnswered, IsFirstOf}
use Rattle.sec_setup.specs.declared.ports.pairs.SignalPair.{SignalPair}
use Rattle.sec_setup.specs.declared.setup.Setup.{Setup}
use Rattle.sec_setup.specs.Cuts.{is_cut}
use Rattle.sec_setup.specs.ports.Pairs.{places_of}
use Rattle.plain_asked.specs.declared.functions.Functions.{Functions}
use Rattle.plain_asked.specs.Asked.{AskedOf, AskedApart, AreAskedApart}
use Rattle.plain_asked.specs.outcome_fits.Outcome.{PairFits, PairsFit, IsFirstOfAnswer}
use Rattle.plain_asked.specs.Sequences.{IsWitnessOf}
use Rattle.plain_check.specs.plain_form.Shown.{IsShowable, IsWitnessAt}
use Rattle.plain_asked.proofs.Sound.{AreSound, ArePairsIn}
use Rattle.obligations.proofs.Fits.{only_query}
use Rattle.plain_check.proofs.plain_form.Decided.{pair_fits}
use Rattle.plain_check.proofs.plain_form.OneLiteral.{asks_something, one_literal_fits}
use Rattle.plain_asked.proofs.Sequences.{is_sequence, is_witness}
use Rattle.plain_asked.proofs.PairQueries.{AsksPair, is_query}

module _ (s : Setup) (f : Functions) (h : AreSound s f) where
  asks : (p : SignalPair) (o : Obligation) (k : AskedOf s f p o) → AsksPair s.left.now s.right.now s.orders.left s.orders.right f.aig f.places p.left.0 p.right.0 k.left_function k.right_function k.queries_are.0
  asks p o k = record { graph = h.graph; distinct = h.distinct; values = h.values; left_is = k.left_is; right_is = k.right_is; asks = k.queries_are.2 }

  -- what is asked of a pair is a query over the graph
  pub own_query : (p : SignalPair) (o : Obligation) (k : AskedOf s f p o) → IsQuery f.aig k.queries_are.0
  own_query p o k = is_query (asks p o k)

  -- each result is that of its pair
  pub pairs_fit : (conflicts : ℕ) (pairs : List SignalPair) (asked : List Obligation) (results : List PairResult) → AreAskedApart s f pairs asked → AllZip (IsAnswered f.aig conflicts) asked results →
      PairsFit (circuit_of s.left.now) (circuit_of s.right.now) s.orders.left s.orders.right (is_cut s.exposed) conflicts (map places_of pairs) results
  pairs_fit conflicts [] [] [] are answered = tt
  pairs_fit conflicts [] [] (r ∷ results) are answered = absurd answered
  pairs_fit conflicts [] (o ∷ asked) results are answered = absurd are
  pairs_fit conflicts (p ∷ pairs) [] results are answered = absurd are
  pairs_fit conflicts (p ∷ pairs) (o ∷ asked) [] are answered = absurd answered
  pairs_fit conflicts (p ∷ pairs) (o ∷ asked) (r ∷ results) are answered =
      (go are.0, pairs_fit conflicts pairs asked results are.1 answered.1)
    where
      go : AskedApart s f p o → PairFits (circuit_of s.left.now) (circuit_of s.right.now) s.orders.left s.orders.right (is_cut s.exposed) conflicts (places_of p) r
      go (inl k) = pair_fits (asks p o k) p.name (is_cut s.exposed) conflicts o r k.name_is k.decisive_is k.queries_are.1 k.size_is answered.0
      go (inr n) = one_literal_fits s f h.values p o conflicts r n answered.0

  module _ (pairs : List SignalPair) (asked : List Obligation) (own : ArePairsIn s pairs) (are : AreAskedApart s f pairs asked) where
    -- the bits of a difference give a sequence
    pub showable : (wanted : PairAnswer) (results : List PairResult) (d : Difference) → IsFirstOf f.aig asked wanted results d → IsShowable f s.columns asked d
    showable wanted results d first =
        let z = zip_left (AskedApart s f) pairs asked are d.pair first.obligation first.asked_at in
        let k = asks_something s f z.0 first.obligation d.query first.differs.query first.differs.first.at z.2 in
        let member = of_at pairs d.pair z.0 z.1 in
        let same = only_query k.queries_are.0 first.obligation.queries d.query first.differs.query k.queries_are.1 first.differs.first.at in
        let difference : IsDifference f.aig k.queries_are.0 d.bits = subst (λ (q : Query). IsDifference f.aig q d.bits) same first.differs.differs in
        let query = is_query (asks z.0 first.obligation k) in
        record {
          obligation = first.obligation;
          query = k.queries_are.0;
          at = record { asked_at = first.asked_at; query_at = first.differs.first.at ∙ ap Some same };
          left = query.left;
          right = query.right;
          sequence = is_sequence (asks z.0 first.obligation k) h.left h.right first.obligation.size k.size_is s.columns h.setup.left_columns h.setup.right_columns (own.left z.0 member) (own.right z.0 member) d.bits difference.each;
        }

    -- the first obligation with an answer is the first pair with it
    pub first_pair : (conflicts : ℕ) (results : List PairResult) (wanted : PairAnswer) (d : Difference) (w : Witness) → AllZip (IsAnswered f.aig conflicts) asked results → IsFirstOf f.aig asked wanted results d → IsWitnessAt f s.columns asked d w →
        IsFirstOfAnswer (circuit_of s.left.now) (circuit_of s.right.now) s.orders.left s.orders.right s.columns wanted (map places_of pairs) results w
    first_pair conflicts results wanted d w answered first shown =
        let o = first.obligation in
        let z = zip_left (AskedApart s f) pairs asked are d.pair o first.asked_at in
        let p = z.0 in
        let k = asks_something s f p o d.query first.differs.query first.differs.first.at z.2 in
        let member = of_at pairs d.pair p z.1 in
        let a = zip_right (IsAnswered f.aig conflicts) asked results answered d.pair o first.asked_at in
        let r : a.0 ≡ first.result = same_Some a.0 first.result (sym a.1 ∙ first.result_at) in
        let size : first.result.size ≡ o.size = ap (λ (x : PairResult). x.size) (sym r) ∙ a.2.size_is in
        let same = only_query k.queries_are.0 o.queries d.query first.differs.query k.queries_are.1 first.differs.first.at in
        let difference : IsDifference f.aig k.queries_are.0 d.bits = subst (λ (q : Query). IsDifference f.aig q d.bits) same first.differs.differs in
        let same_o : shown.obligation ≡ o = same_Some shown.obligation o (sym shown.at.asked_at ∙ first.asked_at) in
        let at_o : slice_get o.queries d.query ≡ Some shown.query = ap (λ (x : Obligation). slice_get x.queries d.query) (sym same_o) ∙ shown.at.query_at in
        let same_q : shown.query ≡ k.queries_are.0 = only_query k.queries_are.0 o.queries d.query shown.query k.queries_are.1 at_o in
        let is : IsWitnessOf f.aig f.places k.queries_are.0 d.bits o.name o.size s.columns w =
        subst (λ (q : Query). IsWitnessOf f.aig f.places q d.bits o.name o.size s.columns w) same_q (subst (λ (x : Obligation). IsWitnessOf f.aig f.places shown.query d.bits x.name x.size s.columns w) same_o shown.is) in
        record {
          index = d.pair;
          place = places_of p;
          result = first.result;
          place_is = slice_get-map places_of pairs d.pair p z.1;
          result_is = first.result_at;
          answered = first.answered;
          earlier = first.earlier;
          shown = record {
            named = is.pair_is ∙ k.name_is;
            cycle_is = is.cycle_is ∙ sym size;
            names_are = is.names_are;
            witness = is_witness (asks p o k) h.left h.right o.size k.size_is s.columns h.setup.left_columns h.setup.right_columns (own.left p member) (own.right p member) d.bits o.name w difference is;
          };
        }
