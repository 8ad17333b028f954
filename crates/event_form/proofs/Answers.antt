-- What the answer to a pair's query says of the pair.
use Rattle.std.proofs.Common.{◌≡◌, ◌∙◌, ℕ, ◌<◌, Bool, true, false, List, [], ◌∷◌, length, slice_get, Option, Some, None, sym, ap, subst, arith, inl, inr}
use Rattle.std.specs.List.{All, AllZip, Contains}
use Rattle.std.proofs.lemmas.List.Elements.{All-contains, All-head, All-tail}
use Rattle.std.proofs.lemmas.Option.{slice_get-get_or}
use Rattle.circuit_theory.specs.Joined.{Either, Left, Right}
use Rattle.circuit_theory.specs.Tree.{Tree}
use Rattle.circuit_theory.proofs.Lists.{Contains-cases, length-map}
use Rattle.circuit_theory.specs.EventFrames.{IsEventSize, event_pair, frame_of}
use Rattle.circuit_theory.specs.Frame.{EventSide}
use Rattle.aig.specs.sec_base.PairAnswer.{PairAnswer}
use Rattle.aig.specs.sec_base.PairAnswer.TheVariants as answer
use Rattle.aig.specs.Builds.{Builds}
use Rattle.aig.specs.declared.node.Lit.{Lit}
use Rattle.aig.proofs.Growth.{Builds-one}
use Rattle.event_nodes.specs.Nodes.{EventGraphView, IsEventGraph, named_places, path_of}
use Rattle.class_search.specs.event_variables.Variables.{variable_of, variables_of}
use Rattle.class_search.proofs.event_variables.Named.{named_distinct}
use Rattle.event_form.specs.event_agreement.Laws.{HasSameQuery}
use Rattle.event_form.specs.event_agreement.Queries.{AsksEventPair}
use Rattle.event_form.proofs.event_agreement.PairQueries.{within, are_variables, left_value, right_value, care_value, takes, shown_frame}
use Rattle.event_form.proofs.event_agreement.Agreeing.{queries_agree}
use Rattle.event_form.specs.event_agreement.pair_events.Enables.{both_of}
use Rattle.sec_setup.specs.declared.ports.pairs.SignalPair.{SignalPair}
use Rattle.obligations.specs.declared.obligation.Obligation.{Obligation}
use Rattle.obligations.specs.Decided.{AnswerIs, IsAnswered}
use Rattle.obligations.specs.Found.{IsDifferenceOf}
use Rattle.obligations.specs.declared.outcome.verdict.PairResult.{PairResult}
use Rattle.obligations.specs.pair_decide.Proof.{Proof}
use Rattle.obligations.specs.pair_decide.Query.{Query}
use Rattle.obligations.specs.pair_decide.Answers.{IsDifference}
use Rattle.obligations.specs.pair_decide.Queries.{IsSame}
use Rattle.obligations.proofs.Fits.{AsksPair, only_query, answer_fits}
use Rattle.event_form.specs.Asked.{IsAskedOf, AreAsked, IsDecisive}
use Rattle.event_form.specs.Answers.{PairFits, IsFrameOf}
use Rattle.event_form.specs.Laws.{AnswersFit, DifferencesAreFrames, EqualPairsAgree}

module _ (s : EventSide (Either ℕ ℕ)) (w : EventGraphView) (p q : Either ℕ ℕ) (query : Query) (is : IsEventGraph w) (k : AsksEventPair s w p q query) where
  left_builds : Builds w.graph (named_places w) k.left_is.tree query.left.0
  left_builds = subst (Builds w.graph (named_places w) k.left_is.tree) (sym (ap (λ (y : Lit). y.0) k.left)) k.left_is.builds

  right_builds : Builds w.graph (named_places w) k.right_is.tree query.right.0
  right_builds = subst (Builds w.graph (named_places w) k.right_is.tree) (sym (ap (λ (y : Lit). y.0) k.right)) k.right_is.builds

  -- the query asks about the pair, where one tree has one literal
  asks : AsksPair (event_pair s p q) w.graph (named_places w) (variable_of w) (λ bits. frame_of (variables_of w query.vars) bits) query
  asks = record {
    left_tree = k.left_is.tree;
    right_tree = k.right_is.tree;
    left_unfolds = k.left_is.unfolds;
    right_unfolds = k.right_is.unfolds;
    are_variables = are_variables s w p q query is k;
    distinct = named_distinct w is;
    named = λ v here.
        let below : v < length w.places = All-contains (λ u. u < length w.places) query.vars v (within s w p q query is k) here in
        let many = length-map {Y = ℕ × List ℕ} (λ (z : ℕ × ℕ). (z.0, path_of w.children z.1)) w.places in
        slice_get-get_or (named_places w) v (0, []) (omega (arith, below, many));
    one_literal = λ e.
        Builds-one w.graph is.is_graph (named_places w) (named_distinct w is) k.left_is.tree query.left.0 query.right.0 left_builds
        (subst (λ (t : Tree (List ℕ)). Builds w.graph (named_places w) t query.right.0) (sym e) right_builds);
    left_value = left_value s w p q query is k;
    right_value = right_value s w p q query is k;
    care_value = care_value s w p q query is k;
    takes = takes s w p q query is k;
  }

true_not_false : true ≡ false → ⊥
true_not_false e = cc

module _ (s : EventSide (Either ℕ ℕ)) (w : EventGraphView) (cut : Bool) (p : SignalPair) (o : Obligation) (is : IsEventGraph w) (k : IsAskedOf s w cut p o) where
  pub pair_fits : (conflicts : ℕ) (r : PairResult) → IsAnswered w.graph conflicts o r → PairFits s cut conflicts p r
  pair_fits conflicts r h = record {
    name_is = h.name_is ∙ k.name_is;
    size_is = subst (IsEventSize s (Left p.left.0) (Right p.right.0)) (sym h.size_is) k.size_is;
    answer_is = answer_fits (asks s w (Left p.left.0) (Right p.right.0) k.query is k.asks) o k.only (IsDecisive s cut p.left.0 p.right.0) k.decisive_is.0 (λ e d. true_not_false (sym (k.decisive_is.1 d) ∙ e)) conflicts
        r.answer r.proof h.answer_is;
  }

  pub frame_is : (place : ℕ) (bits : List Bool) → IsDifferenceOf w.graph o.queries place bits → IsFrameOf s w p o.queries place bits
  frame_is place bits d = record {
    query = k.query;
    at = subst (λ (r : Query). slice_get o.queries place ≡ Some r) (only_query k.query o.queries place d.query k.only d.first.at) d.first.at;
    shown = shown_frame s w (Left p.left.0) (Right p.right.0) k.query is k.asks bits (subst (λ (r : Query). IsDifference w.graph r bits) (only_query k.query o.queries place d.query k.only d.first.at) d.differs);
  }

  -- the query of a pair that is equal has sides that agree
  same_query : (conflicts : ℕ) (r : PairResult) → IsAnswered w.graph conflicts o r → r.answer ≡ answer.Equal → HasSameQuery s w (Left p.left.0) (Right p.right.0)
  same_query conflicts r h equal = record { query = k.query; asks = k.asks; same = All-head (IsSame w.graph) k.query [] (subst (All (IsSame w.graph)) k.only (go r.answer r.proof equal h.answer_is)) }
    where
      go : (y : PairAnswer) (proof : Option Proof) → y ≡ answer.Equal → AnswerIs w.graph conflicts o y proof → All (IsSame w.graph) o.queries
      go answer.Equal None e m = m
      go answer.Equal (Some proof) e m = absurd m
      go answer.Different proof e m = cc
      go answer.NotShown proof e m = cc
      go answer.Limit proof e m = cc

module _ (s : EventSide (Either ℕ ℕ)) (w : EventGraphView) (cut : Bool) (conflicts : ℕ) (is : IsEventGraph w) where
  all_same : (pairs : List SignalPair) (asked : List Obligation) (results : List PairResult) → AreAsked s w cut pairs asked → AllZip (IsAnswered w.graph conflicts) asked results → All (λ (r : PairResult). r.answer ≡ answer.Equal) results →
      (x : SignalPair) → Contains pairs x → HasSameQuery s w (Left x.left.0) (Right x.right.0)
  all_same [] asked results a b equal x h = absurd (omega (arith, h.1))
  all_same (p ∷ ps) [] results a b equal x h = absurd a
  all_same (p ∷ ps) (o ∷ os) [] a b equal x h = absurd b
  all_same (p ∷ ps) (o ∷ os) (r ∷ rs) a b equal x h =
      elim (Contains-cases p x ps h) [
        | inl e ↦ subst (λ (z : SignalPair). HasSameQuery s w (Left z.left.0) (Right z.right.0)) e (same_query s w cut p o is a.0 conflicts r b.0 (All-head (λ (z : PairResult). z.answer ≡ answer.Equal) r rs equal))
        | inr m ↦ all_same ps os rs a.1 b.1 (All-tail (λ (z : PairResult). z.answer ≡ answer.Equal) r rs equal) x m
      ]

pub answers_are_fit : AnswersFit
answers_are_fit s w cut conflicts p o r is k h = pair_fits s w cut p o is k conflicts r h

pub frames_of_differences : DifferencesAreFrames
frames_of_differences s w cut p o place bits is k d = frame_is s w cut p o is k place bits d

pub equal_agree : EqualPairsAgree
equal_agree a b w cut conflicts pairs asked results kept classes depths numbers are answered equal all =
    queries_agree a b w kept classes depths numbers (λ p q pair. found p q (all p q pair))
  where
    found : (p q : ℕ) → (x : SignalPair) × Contains pairs x × (x.left.0 ≡ p) × (x.right.0 ≡ q) → HasSameQuery (both_of a b) w (Left p) (Right q)
    found p q x =
        subst (λ (u : ℕ). HasSameQuery (both_of a b) w (Left u) (Right q)) x.2 (subst (λ (v : ℕ). HasSameQuery (both_of a b) w (Left x.0.left.0) (Right v)) x.3
        (all_same (both_of a b) w cut conflicts kept.events pairs asked results are answered equal x.0 x.1))
