-- What is found of the queries of a cycle is what is said of the pairs there.
use Rattle.std.proofs.Common.{◌≡◌, ◌≢◌, ℕ, zero, suc, ◌<◌, ◌≤◌, true, false, Bool, List, [], ◌∷◌, map, length, get_or, slice_get, Option, Some, None, refl, sym, ◌∙◌, ap, subst, arith, inl, inr}
use Rattle.std.specs.Prelude.{◌⊎◌}
use Rattle.std.specs.List.{All, AllZip, Contains}
use Rattle.std.proofs.lemmas.List.Elements.{All-map}
use Rattle.std.proofs.lemmas.Option.{slice_get_within, same_Some, get_or_from_slice_get}
use Rattle.circuit_theory.specs.Tree.{tree_value}
use Rattle.circuit_theory.specs.Query.{Variable, bits_of, pair_query, same_shift}
use Rattle.circuit_theory.specs.Query as query
use Rattle.circuit_theory.proofs.Lists.{All-from_each, Contains-map, at_of, of_at, length-map, zip_length, zip_right}
use Rattle.circuit_theory.proofs.Numbers.{slice_get-map}
use Rattle.flat_net.specs.View.{circuit_of}
use Rattle.flat_net.proofs.Nets.{some_at}
use Rattle.flat_net.proofs.Places.{All-at}
use Rattle.sec_base.specs.declared.basics.PairAnswer.{PairAnswer}
use Rattle.sec_base.specs.declared.basics.PairAnswer.TheVariants as answer
use Rattle.circuit_laws.specs.reset_laws.Reset.{IsResetWitness}
use Rattle.aig.specs.lane_eval.root_classes.Agreeing.{Agree}
use Rattle.cbf_unfold.specs.declared.unfold_places.signal_function.Unfolded.{Unfolded}
use Rattle.cbf_unfold.specs.shift_variables.Variables.{variable_of, variables_of}
use Rattle.cbf_unfold.specs.shift_variables.cycle_variables.Cycles.{AreInCycles}
use Rattle.pair_decide.specs.declared.query.Query.{Query}
use Rattle.pair_decide.specs.declared.query.Proof.{Proof}
use Rattle.pair_decide.specs.Queries.{IsQuery, IsSame}
use Rattle.pair_decide.specs.Answers.{IsDifference}
use Rattle.obligations.specs.declared.outcome.verdict.PairResult.{PairResult}
use Rattle.obligations.specs.declared.outcome.verdict.ResetWitness.{ResetWitness}
use Rattle.obligations.specs.declared.obligation.Obligation.{Obligation}
use Rattle.obligations.specs.declared.obligation.Difference.{Difference}
use Rattle.obligations.specs.declared.decision.Decided.{Decided}
use Rattle.obligations.specs.declared.verdict.VerdictAt.{VerdictAt}
use Rattle.obligations.specs.declared.verdict.VerdictAt.TheVariants as at
use Rattle.obligations.specs.Decided.{AnswerIs, NoneIs, IsAnswered, IsFirstOf, IsFirst, HaveDecided}
use Rattle.obligations.specs.Verdict.{IsVerdictAt}
use Rattle.witness_report.specs.declared.witness.PairName.{PairName}
use Rattle.sec_setup.specs.declared.ports.pairs.SignalPair.{SignalPair}
use Rattle.sec_setup.specs.declared.setup.Setup.{Setup}
use Rattle.sec_setup.specs.ports.Pairs.{outputs_of, places_of}
use Rattle.outcome_fits.specs.ResetOutcome.{AgreeAt}
use Rattle.reset_form.specs.declared.reset_asked.findings.ResetVerdict.{ResetVerdict}
use Rattle.reset_form.specs.declared.reset_functions.bases.Bases.{Bases}
use Rattle.reset_form.specs.declared.reset_functions.functions.Functions.{Functions}
use Rattle.reset_form.specs.reset_asked.Asked.{IsCycleQuery}
use Rattle.reset_form.specs.reset_asked.Numbers.{numbered}
use Rattle.reset_form.specs.reset_functions.Bases.{AreBases}
use Rattle.reset_form.specs.Shown.{IsWitnessOf}
use Rattle.reset_form.proofs.reset_asked.Columns.{leaf_is}
use Rattle.reset_form.proofs.reset_asked.CycleQueries.{left_tree, right_tree, query_in_order, are_variables, each_variable, is_query, left_at_bits, right_at_bits, trees_differ, variables_long, least_is}
use Rattle.obligations.proofs.Fits.{equal, different, undecided}
use Rattle.reset_form.proofs.reset_asked.Decided.{asks_pair}
use Rattle.reset_form.proofs.reset_asked.PairCycles.{AreSoundFunctions, AsksIn}
use Rattle.reset_form.proofs.reset_functions.OwnPairs.{ArePairsIn}
use Rattle.cycle_search.specs.Asked.{AskedIn, AreAskedIn, AreQueriesOf}
use Rattle.cycle_search.specs.Cycles.{AnswerIn, ResultIn, IsDifferenceIn, VerdictIn, AreFunctionsIn}
use Rattle.cycle_search.specs.Outputs.{IsApart}
use Rattle.cycle_search.specs.Settings.{IsSetting}
use Rattle.cycle_search.specs.Shown.{CanBeShownIn, IsShowableIn, IsWitnessIn, IsShownIn}

nothing : {X : Type 0} {x : X} → None ≡ Some x → ⊥
nothing q = cc

-- lists of one length that fit at each place fit
pub zip_from : {X Y : Type 0} (R : X → Y → Type 0) (xs : List X) (ys : List Y) → length xs ≡ length ys → ((i : ℕ) (x : X) (y : Y) → slice_get xs i ≡ Some x → slice_get ys i ≡ Some y → R x y) → AllZip R xs ys
zip_from R [] [] e h = tt
zip_from R [] (y ∷ ys) e h = absurd (omega (arith, e))
zip_from R (x ∷ xs) [] e h = absurd (omega (arith, e))
zip_from R (x ∷ xs) (y ∷ ys) e h = (h 0 x y refl refl, zip_from R xs ys (omega (arith, e)) (λ i a b p q. h (suc i) a b p q))

-- the signals of the pairs are outputs
pub own_pairs : (s : Setup) → IsSetting s → ArePairsIn s s.pairs
own_pairs s h = record {
  left = λ p k. subst (λ (l : List ℕ). Contains l p.left.0) h.pairs.left (Contains-map (λ (q : SignalPair). q.left.0) s.pairs p k);
  right = λ p k. (h.pairs.right p.right.0).0 (Contains-map (λ (q : SignalPair). q.right.0) s.pairs p k);
}

-- the only answer left
answer_left : (x : PairAnswer) → x ≢ answer.Different → x ≢ answer.Limit → x ≢ answer.NotShown → x ≡ answer.Equal
answer_left answer.Equal d l n = refl
answer_left answer.Different d l n = absurd (d refl)
answer_left answer.NotShown d l n = absurd (n refl)
answer_left answer.Limit d l n = absurd (l refl)

-- the variables of each function stand in order
module _ (s : Setup) (b : Bases) (f : Functions) (cycle : ℕ) (left right : List Unfolded) (functions : AreFunctionsIn s b f cycle left right) where
  pub left_in_order : All (λ (u : Unfolded). AreInCycles f.places u.vars) left
  left_in_order =
      All-from_each (λ (u : Unfolded). AreInCycles f.places u.vars) left
      (λ u k.
      let at = at_of left u k in
      let w = slice_get_within left at.0 u at.1 in
      let x = some_at s.pairs at.0 (let e = functions.left_each in omega (arith, w, e)) in
      let r = some_at right at.0 (let e = functions.left_each in let d = functions.right_each in omega (arith, w, e, d)) in
      (functions.left_are at.0 x.0 u r.0 x.1 at.1 r.1).in_order)

  pub right_in_order : All (λ (u : Unfolded). AreInCycles f.places u.vars) right
  right_in_order =
      All-from_each (λ (u : Unfolded). AreInCycles f.places u.vars) right
      (λ u k.
      let at = at_of right u k in
      let w = slice_get_within right at.0 u at.1 in
      let x = some_at s.pairs at.0 (let e = functions.right_each in omega (arith, w, e)) in
      let l = some_at left at.0 (let e = functions.left_each in let d = functions.right_each in omega (arith, w, e, d)) in
      (functions.right_are at.0 x.0 l.0 u x.1 l.1 at.1).in_order)

module _ (s : Setup) (b : Bases) (f : Functions) (setting : IsSetting s) (bases : AreBases s b) (sound : AreSoundFunctions f) (cycle : ℕ) (left right : List Unfolded) (functions : AreFunctionsIn s b f cycle left right) (asked : List Obligation)
    (are : AreAskedIn f.aig f.places cycle s.pairs left right asked) where
  -- the functions of a pair, and what is asked of it
  pub record PairIn (x : SignalPair) (o : Obligation) : Type 0 where
    pub l : Unfolded
    pub r : Unfolded
    pub left_is : IsApart s.left.now s.orders.left b.left f.aig f.places x.left.0 cycle r.lit.0 l
    pub right_is : IsApart s.right.now s.orders.right b.right f.aig f.places x.right.0 cycle l.lit.0 r
    pub asks : AskedIn f.aig f.places cycle x l r o

  pair_in : (i : ℕ) (x : SignalPair) (o : Obligation) → slice_get s.pairs i ≡ Some x → slice_get asked i ≡ Some o → PairIn x o
  pair_in i x o hx ho =
      let w = slice_get_within s.pairs i x hx in
      let l = some_at left i (let e = functions.left_each in omega (arith, w, e)) in
      let r = some_at right i (let e = functions.right_each in omega (arith, w, e)) in
      record { l = l.0; r = r.0; left_is = functions.left_are i x l.0 r.0 hx l.1 r.1; right_is = functions.right_are i x l.0 r.0 hx l.1 r.1; asks = are.are i x l.0 r.0 o hx l.1 r.1 ho }

  -- the pair of an obligation
  pair_of : (i : ℕ) (o : Obligation) → slice_get asked i ≡ Some o → (x : SignalPair) × (slice_get s.pairs i ≡ Some x)
  pair_of i o ho = let w = slice_get_within asked i o ho in some_at s.pairs i (let e = are.each in omega (arith, w, e))

  module _ (x : SignalPair) (o : Obligation) (k : PairIn x o) where
    -- the query at a place is that of both functions
    asks_at : (place : ℕ) (q : Query) → slice_get o.queries place ≡ Some q → AsksIn s b f x cycle k.l k.r q
    asks_at place q at = go k.asks.queries_are
      where
        one : (p : Query) (j : ℕ) → slice_get (p ∷ []) j ≡ Some q → p ≡ q
        one p zero e = cc
        one p (suc j) e = absurd (let w = slice_get_within [] j q e in omega (arith, w))

        go : AreQueriesOf f.aig f.places k.l k.r o.queries → AsksIn s b f x cycle k.l k.r q
        go (inl none) = absurd (let w = slice_get_within [] place q (ap (λ (qs : List Query). slice_get qs place) (sym none.1) ∙ at) in omega (arith, w))
        go (inr (apart, p, is, asks)) =
            let same : p ≡ q = one p place (ap (λ (qs : List Query). slice_get qs place) (sym is) ∙ at) in
            record { graph = sound.graph; distinct = sound.distinct; values = sound.values; left_is = k.left_is.function apart; right_is = k.right_is.function (λ e. apart (sym e)); asks = subst (IsCycleQuery f.places k.l k.r) same asks }

    own_queries : All (IsQuery f.aig) o.queries
    own_queries = All-from_each (IsQuery f.aig) o.queries (λ q h. let at = at_of o.queries q h in is_query (asks_at at.0 q at.1))

    -- what agrees in the graph agrees
    same_by_value : Agree f.aig k.l.lit.0 k.r.lit.0 → (bits : ℕ → ℕ → Bool) → tree_value bits k.left_is.known.tree ≡ tree_value bits k.right_is.known.tree
    same_by_value e bits =
        let y : ℕ → Bool = λ v. bits (get_or f.places v (0, 0)).0 (get_or f.places v (0, 0)).1 in
        let takes : (v : ℕ) (p : ℕ × ℕ) → slice_get f.places v ≡ Some p → y v ≡ bits p.0 p.1 = λ v p at. ap (λ (z : ℕ × ℕ). bits z.0 z.1) (get_or_from_slice_get f.places v p (0, 0) at) in
        sym (sound.values f.places bits y k.left_is.known.tree k.l.lit.0 takes k.left_is.known.builds) ∙ (e y ∙ sound.values f.places bits y k.right_is.known.tree k.r.lit.0 takes k.right_is.known.builds)

    -- both functions agree where the queries are same
    agree : All (IsSame f.aig) o.queries → AgreeAt (numbered s b) x.left.0 x.right.0 cycle
    agree same = go k.asks.queries_are
      where
        go : AreQueriesOf f.aig f.places k.l k.r o.queries → AgreeAt (numbered s b) x.left.0 x.right.0 cycle
        go (inl none) = record { left_tree = k.left_is.known.tree; right_tree = k.right_is.known.tree; left_unfolds = k.left_is.known.unfolds; right_unfolds = k.right_is.known.unfolds; same = λ bits care. same_by_value none.0 bits }
        go (inr (apart, p, is, asks)) =
            let here : slice_get o.queries 0 ≡ Some p = ap (λ (qs : List Query). slice_get qs 0) is in
            equal (asks_pair (asks_at 0 p here)) (All-at (IsSame f.aig) o.queries 0 p here same)

    -- the result has the answer of the obligation
    pub result_in : (conflicts : ℕ) (result : PairResult) → IsAnswered f.aig conflicts o result → ResultIn (numbered s b) conflicts cycle (places_of x) result
    result_in conflicts result is = record {
      name_is = is.name_is ∙ k.asks.name_is;
      size_is = is.size_is ∙ k.asks.size_is;
      answer_is = go result.answer result.proof is.answer_is;
    }
      where
        no : true ≡ false → ⊥
        no e = cc

        go : (y : PairAnswer) (proof : Option Proof) → AnswerIs f.aig conflicts o y proof → AnswerIn (numbered s b) conflicts x.left.0 x.right.0 cycle y proof
        go answer.Equal None h = agree h
        go answer.Equal (Some proof) h = h
        go answer.Different None h = let d = h.1 in (tt, different (asks_pair (asks_at d.place d.is.query d.is.first.at)) d.bits d.is.differs)
        go answer.Different (Some proof) h = h
        go answer.NotShown None h = absurd (no (sym k.asks.decisive_is ∙ h.0))
        go answer.NotShown (Some proof) h = h
        go answer.Limit None h = h
        go answer.Limit (Some proof) h = undecided (asks_pair (asks_at h.place h.query h.first.at)) conflicts proof h.limit

    not_unshown : (conflicts : ℕ) (y : PairAnswer) (proof : Option Proof) → y ≡ answer.NotShown → AnswerIs f.aig conflicts o y proof → ⊥
    not_unshown conflicts answer.NotShown None e h = no (sym k.asks.decisive_is ∙ h.0)
      where
        no : true ≡ false → ⊥
        no q = cc
    not_unshown conflicts answer.NotShown (Some proof) e h = h
    not_unshown conflicts answer.Equal proof e h = cc
    not_unshown conflicts answer.Different proof e h = cc
    not_unshown conflicts answer.Limit proof e h = cc

  -- what is asked are queries over the graph
  pub queries_are : All (λ (o : Obligation). All (IsQuery f.aig) o.queries) asked
  queries_are = All-from_each (λ (o : Obligation). All (IsQuery f.aig) o.queries) asked
      (λ o h. let at = at_of asked o h in let x = pair_of at.0 o at.1 in own_queries x.0 o (pair_in at.0 x.0 o x.1 at.1))

  module _ (conflicts : ℕ) (results : List PairResult) (answered : AllZip (IsAnswered f.aig conflicts) asked results) where
    -- each result is that of its pair
    pub pairs_fit : AllZip (ResultIn (numbered s b) conflicts cycle) (map places_of s.pairs) results
    pairs_fit = zip_from (ResultIn (numbered s b) conflicts cycle) (map places_of s.pairs) results long each
      where
        long : length (map places_of s.pairs) ≡ length results
        long = length-map places_of s.pairs ∙ (sym are.each ∙ zip_length (IsAnswered f.aig conflicts) asked results answered)

        each : (i : ℕ) (p : _) (r : PairResult) → slice_get (map places_of s.pairs) i ≡ Some p → slice_get results i ≡ Some r → ResultIn (numbered s b) conflicts cycle p r
        each i p r hp hr =
            let w = slice_get_within (map places_of s.pairs) i p hp in
            let x = some_at s.pairs i (let e = length-map places_of s.pairs in omega (arith, w, e)) in
            let o = some_at asked i (let e = length-map places_of s.pairs in let d = are.each in omega (arith, w, e, d)) in
            let a = zip_right (IsAnswered f.aig conflicts) asked results answered i o.0 o.1 in
            let same_r : a.0 ≡ r = same_Some a.0 r (sym a.1 ∙ hr) in
            let same_p : places_of x.0 ≡ p = same_Some (places_of x.0) p (sym (slice_get-map places_of s.pairs i x.0 x.1) ∙ hp) in
            subst (λ q. ResultIn (numbered s b) conflicts cycle q r) same_p
            (subst (ResultIn (numbered s b) conflicts cycle (places_of x.0)) same_r (result_in x.0 o.0 (pair_in i x.0 o.0 x.1 o.1) conflicts a.0 a.2))

    -- each difference shows that the circuits differ
    none_unshown : (d : Difference) → IsFirstOf f.aig asked answer.NotShown results d → ⊥
    none_unshown d first =
        let o = first.obligation in
        let x = pair_of d.pair o first.asked_at in
        let a = zip_right (IsAnswered f.aig conflicts) asked results answered d.pair o first.asked_at in
        let r : a.0 ≡ first.result = same_Some a.0 first.result (sym a.1 ∙ first.result_at) in
        not_unshown x.0 o (pair_in d.pair x.0 o x.1 first.asked_at) conflicts a.0.answer a.0.proof (ap (λ (y : PairResult). y.answer) r ∙ first.answered) a.2.answer_is

  -- the bits of a difference give a sequence and power-ups
  showable : (wanted : PairAnswer) (results : List PairResult) (d : Difference) → IsFirstOf f.aig asked wanted results d → IsShowableIn f asked d
  showable wanted results d first =
      let o = first.obligation in
      let x = pair_of d.pair o first.asked_at in
      let at = first.differs.first.at in
      let k = asks_at x.0 o (pair_in d.pair x.0 o x.1 first.asked_at) d.query first.differs.query at in
      let q = is_query k in
      record {
        obligation = o;
        query = first.differs.query;
        at = record { asked_at = first.asked_at; query_at = at };
        left = q.left;
        right = q.right;
        each = first.differs.differs.each;
        in_order = query_in_order k;
      }

  -- they give a witness
  module _ (x : SignalPair) (left_shown : Contains (outputs_of s.left.now) x.left.0) (right_shown : Contains (outputs_of s.right.now) x.right.0) (l r : Unfolded) (q : Query) (k : AsksIn s b f x cycle l r q) where
    Own : Variable ℕ → Type 0
    Own y = (y.input < length s.columns) ⊎ (b.left ≤ y.input)

    above : (y : Variable ℕ) → (y.input < length s.columns) ⊎ (b.right ≤ y.input) → Own y
    unfolding Own
    above y (inl e) = inl e
    above y (inr e) = inr (let z = bases.right_is in omega (arith, e, z))

    inputs_within : All (λ v. (variable_of f.places v).input < length s.columns ⊎ (b.left ≤ (variable_of f.places v).input)) q.vars
    unfolding Own
    inputs_within =
        All-from_each (λ v. Own (variable_of f.places v)) q.vars
        (λ v m.
        each_variable k Own (λ y leaf. leaf_is s.left.now s.columns s.orders.left s.orders.right setting.left_columns b.left x.left.0 cycle (left_tree k) left_shown k.left_is.unfolds y leaf)
        (λ y leaf. above y (leaf_is s.right.now s.columns s.orders.right s.orders.left setting.right_columns b.right x.right.0 cycle (right_tree k) right_shown k.right_is.unfolds y leaf)) v m)

    is_witness : (bits : List Bool) (name : PairName) (w : ResetWitness) → IsDifference f.aig q bits → IsWitnessOf s b f q bits name cycle w →
        IsResetWitness (circuit_of s.left.now) (circuit_of s.right.now) s.orders.left s.orders.right b.left b.right x.left.0 x.right.0 (length s.columns) w.witness.stimulus.rows w.left_power w.right_power cycle w.witness.left w.witness.right
    is_witness bits name w d is = record {
      left_tree = left_tree k;
      right_tree = right_tree k;
      left_unfolds = k.left_is.unfolds;
      right_unfolds = k.right_is.unfolds;
      variables = variables_of f.places q.vars;
      are_variables = are_variables k;
      inputs = All-map (λ (y : Variable ℕ). (y.input < length s.columns) ⊎ (b.left ≤ y.input)) (variable_of f.places) q.vars inputs_within;
      bits = bits;
      each = d.each ∙ sym (variables_long k);
      distinguishes = trees_differ k bits d.distinguishes;
      least = λ few. least (omega (arith, few, variables_long k));
      rows_are = is.sequence.rows_are;
      left_power_is = is.left_power_is;
      right_power_is = is.right_power_is;
      left_value = is.sequence.left_is ∙ left_at_bits k bits;
      right_value = is.sequence.right_is ∙ right_at_bits k bits;
    }
      where
        least : length q.vars ≤ 16 → (number : ℕ) × (bits ≡ bits_of number (length (variables_of f.places q.vars))) × query.IsLeast same_shift (pair_query (left_tree k) (right_tree k)) (variables_of f.places q.vars) number
        least few =
            let m = d.least few in
            (m.0, m.1 ∙ ap (bits_of m.0) (sym (variables_long k)), least_is k m.0 m.2)

  -- the first obligation that differs is the first pair that does
  first_pair : (conflicts : ℕ) (results : List PairResult) (d : Difference) (w : ResetWitness) → AllZip (IsAnswered f.aig conflicts) asked results → IsFirstOf f.aig asked answer.Different results d → IsWitnessIn s b f asked cycle d w →
      IsDifferenceIn (numbered s b) cycle (map places_of s.pairs) results w
  first_pair conflicts results d w answered first shown =
      let o = first.obligation in
      let x = pair_of d.pair o first.asked_at in
      let p = x.0 in
      let member = of_at s.pairs d.pair p x.1 in
      let pair = pair_in d.pair p o x.1 first.asked_at in
      let q = first.differs.query in
      let at = first.differs.first.at in
      let k = asks_at p o pair d.query q at in
      let same_o : shown.obligation ≡ o = same_Some shown.obligation o (sym shown.at.asked_at ∙ first.asked_at) in
      let at_o : slice_get o.queries d.query ≡ Some shown.query = ap (λ (y : Obligation). slice_get y.queries d.query) (sym same_o) ∙ shown.at.query_at in
      let same_q : shown.query ≡ q = same_Some shown.query q (sym at_o ∙ at) in
      let is : IsWitnessOf s b f q d.bits o.name cycle w =
      subst (λ (y : Query). IsWitnessOf s b f y d.bits o.name cycle w) same_q (subst (λ (y : Obligation). IsWitnessOf s b f shown.query d.bits y.name cycle w) same_o shown.is) in
      let own = own_pairs s setting in
      record {
        index = d.pair;
        place = places_of p;
        result = first.result;
        place_is = slice_get-map places_of s.pairs d.pair p x.1;
        result_is = first.result_at;
        answered = first.answered;
        earlier = first.earlier;
        shown = record {
          named = is.sequence.pair_is ∙ pair.asks.name_is;
          cycle_is = is.sequence.cycle_is;
          names_are = is.sequence.names_are;
          witness = is_witness p (own.left p member) (own.right p member) pair.l pair.r q k d.bits o.name w first.differs.differs is;
        };
      }

  module _ (conflicts : ℕ) (d : Decided) (decided : HaveDecided f.aig conflicts asked d) where
    -- the verdict can be shown
    pub can_be_shown : (y : VerdictAt) → IsVerdictAt d.different d.not_shown d.results y → CanBeShownIn f asked d.results y
    can_be_shown at.Equal i = tt
    can_be_shown (at.Different x) i = showable answer.Different d.results x (subst (IsFirst f.aig asked answer.Different d.results) i decided.different)
    can_be_shown (at.Limit place) i = slice_get_within d.results place i.1.result i.1.at
    can_be_shown (at.NotShown x) i = none_unshown conflicts d.results decided.results x (subst (IsFirst f.aig asked answer.NotShown d.results) i.2 decided.not_shown)

    -- and is that of the pairs
    pub verdict_in : (y : VerdictAt) (v : ResetVerdict) → IsVerdictAt d.different d.not_shown d.results y → IsShownIn s b f asked d.results cycle y v → VerdictIn (numbered s b) cycle (map places_of s.pairs) d.results v
    verdict_in y v is shown = go y is shown
      where
        Fits : ResetVerdict → Type 0
        Fits w = VerdictIn (numbered s b) cycle (map places_of s.pairs) d.results w

        none_of : (wanted : PairAnswer) (first : Option Difference) → first ≡ None → IsFirst f.aig asked wanted d.results first → NoneIs wanted d.results
        none_of wanted first e k = subst (IsFirst f.aig asked wanted d.results) e k

        first_of : (wanted : PairAnswer) (first : Option Difference) (x : Difference) → first ≡ Some x → IsFirst f.aig asked wanted d.results first → IsFirstOf f.aig asked wanted d.results x
        first_of wanted first x e k = subst (IsFirst f.aig asked wanted d.results) e k

        go : (x : VerdictAt) → IsVerdictAt d.different d.not_shown d.results x → IsShownIn s b f asked d.results cycle x v → Fits v
        go at.Equal i k =
            let different = none_of answer.Different d.different i.0 decided.different in
            let unshown = none_of answer.NotShown d.not_shown i.2 decided.not_shown in
            subst Fits (sym k) (λ j e inside. answer_left _ (different j e inside) (i.1 j e inside) (unshown j e inside))
        go (at.Different x) i k = subst Fits (sym k.1) (first_pair conflicts d.results x k.0 decided.results (first_of answer.Different d.different x i decided.different) k.2)
        go (at.Limit place) i k =
            let l = i.1 in
            let r : k.0 ≡ l.result = same_Some k.0 l.result (sym k.1 ∙ l.at) in
            subst Fits (sym k.2) (record {
              index = place;
              result = l.result;
              result_is = l.at;
              limit = l.limit;
              earlier = l.earlier;
              no_difference = none_of answer.Different d.different i.0 decided.different;
              named = ap (λ (x : PairResult). x.name) r;
            })
        go (at.NotShown x) i k = absurd k
