-- Where all pairs are equal, the circuits agree.
use Rattle.std.proofs.Common.{◌≡◌, ℕ, Bool, List, [], ◌∷◌, Option, Some, None, subst, inl, inr, arith}
use Rattle.std.specs.List.{All, AllZip, Contains}
use Rattle.std.proofs.lemmas.List.Elements.{All-head, All-tail}
use Rattle.circuit_theory.specs.Circuit.{Circuit}
use Rattle.circuit_theory.specs.Agree.{IsPair}
use Rattle.circuit_theory.specs.Depth.{LatchesHaveDepths}
use Rattle.circuit_theory.specs.Joined.{Either, Left, Right}
use Rattle.circuit_theory.specs.Run.{IsEnabled}
use Rattle.circuit_theory.specs.Tree.{AreNumbered}
use Rattle.circuit_theory.proofs.Lists.{Contains-cases}
use Rattle.circuit_theory.specs.Classes.{HasClasses}
use Rattle.circuit_theory.specs.Frame.{EventSide}
use Rattle.flat_net.specs.View.{circuit_of}
use Rattle.sec_base.specs.declared.basics.PairAnswer.{PairAnswer}
use Rattle.sec_base.specs.declared.basics.PairAnswer.TheVariants as answer
use Rattle.edbf_unfold.specs.class_queries.Enables.{both_of}
use Rattle.edbf_unfold.specs.class_queries.Laws.{AreKept}
use Rattle.event_nodes.specs.Nodes.{EventGraphView}
use Rattle.event_nodes.specs.View.{EventCircuitView}
use Rattle.event_form.specs.event_agreement.Laws.{HasSameQuery}
use Rattle.event_form.proofs.event_agreement.Agreeing.{queries_agree}
use Rattle.event_form.proofs.event_agreement.CutCircuits.{cut_queries_agree}
use Rattle.sec_setup.specs.declared.ports.pairs.SignalPair.{SignalPair}
use Rattle.obligations.specs.declared.obligation.Obligation.{Obligation}
use Rattle.obligations.specs.Decided.{AnswerIs, IsAnswered}
use Rattle.obligations.specs.declared.outcome.verdict.PairResult.{PairResult}
use Rattle.pair_decide.specs.declared.query.Proof.{Proof}
use Rattle.pair_decide.specs.Queries.{IsSame}
use Rattle.event_form.specs.Asked.{AreAsked, IsAskedOf}
use Rattle.event_comparison.specs.Agreement.{AreAllPairs, CircuitsAgree}

module _ (s : EventSide (Either ℕ ℕ)) (w : EventGraphView) (cut : Bool) (conflicts : ℕ) where
  sides_same : (o : Obligation) (y : PairAnswer) (proof : Option Proof) → y ≡ answer.Equal → AnswerIs w.graph conflicts o y proof → All (IsSame w.graph) o.queries
  sides_same o answer.Equal None e h = h
  sides_same o answer.Equal (Some proof) e h = absurd h
  sides_same o answer.Different proof e h = cc
  sides_same o answer.NotShown proof e h = cc
  sides_same o answer.Limit proof e h = cc

  -- the query of a pair that is equal has sides that agree
  same_query : (p : SignalPair) (o : Obligation) (k : IsAskedOf s w cut p o) (r : PairResult) → IsAnswered w.graph conflicts o r → r.answer ≡ answer.Equal → HasSameQuery s w (Left p.left.0) (Right p.right.0)
  same_query p o k r h equal = record { query = k.query; asks = k.asks; same = All-head (IsSame w.graph) k.query [] (subst (All (IsSame w.graph)) k.only (sides_same o r.answer r.proof equal h.answer_is)) }

  all_same : (pairs : List SignalPair) (asked : List Obligation) (results : List PairResult) → AreAsked s w cut pairs asked → AllZip (IsAnswered w.graph conflicts) asked results → All (λ (r : PairResult). r.answer ≡ answer.Equal) results →
      (x : SignalPair) → Contains pairs x → HasSameQuery s w (Left x.left.0) (Right x.right.0)
  all_same [] asked results a b equal x h = absurd (omega (arith, h.1))
  all_same (p ∷ ps) [] results a b equal x h = absurd a
  all_same (p ∷ ps) (o ∷ os) [] a b equal x h = absurd b
  all_same (p ∷ ps) (o ∷ os) (r ∷ rs) a b equal x h =
      elim (Contains-cases p x ps h) [
        | inl e ↦ subst (λ (z : SignalPair). HasSameQuery s w (Left z.left.0) (Right z.right.0)) e (same_query p o a.0 r b.0 (All-head (λ (z : PairResult). z.answer ≡ answer.Equal) r rs equal))
        | inr m ↦ all_same ps os rs a.1 b.1 (All-tail (λ (z : PairResult). z.answer ≡ answer.Equal) r rs equal) x m
      ]

  -- so has each pair that is compared
  pub pairs_same : (pairs : List SignalPair) (asked : List Obligation) (results : List PairResult) → AreAsked s w cut pairs asked → AllZip (IsAnswered w.graph conflicts) asked results → All (λ (r : PairResult). r.answer ≡ answer.Equal) results →
      (names : List (List ℕ)) (c d : Circuit ℕ) → AreAllPairs names c d pairs → (p q : ℕ) → IsPair names c d p q → HasSameQuery s w (Left p) (Right q)
  pairs_same pairs asked results a b equal names c d all p q pair =
      let x = all p q pair in
      subst (λ (u : ℕ). HasSameQuery s w (Left u) (Right q)) x.2 (subst (λ (v : ℕ). HasSameQuery s w (Left x.0.left.0) (Right v)) x.3 (all_same pairs asked results a b equal x.0 x.1))

pub circuits_agree : (a b : EventCircuitView) (w : EventGraphView) (cut : Bool) (conflicts : ℕ) (pairs : List SignalPair) (asked : List Obligation) (results : List PairResult) → AreKept a b w → HasClasses (both_of a b) →
    LatchesHaveDepths (both_of a b).circuit (IsEnabled (both_of a b).circuit) → AreNumbered (circuit_of a.net) (circuit_of b.net) a.order b.order → AreAsked (both_of a b) w cut pairs asked →
    AllZip (IsAnswered w.graph conflicts) asked results → All (λ (r : PairResult). r.answer ≡ answer.Equal) results → CircuitsAgree a b pairs
circuits_agree a b w cut conflicts pairs asked results kept classes deep numbers are answered each = record {
  agree = λ all. queries_agree a b w kept classes deep numbers (same [] (circuit_of a.net) (circuit_of b.net) all);
  onward = λ exposed c d from all. cut_queries_agree c d from.left_size from.right_size exposed a b w from.left_net from.right_net from.left_names from.right_names from.minimal from.left_cut from.right_cut kept classes deep numbers (same exposed c d all);
}
  where
    same : (exposed : List (List ℕ)) (c d : Circuit ℕ) → AreAllPairs exposed c d pairs → (p q : ℕ) → IsPair exposed c d p q → HasSameQuery (both_of a b) w (Left p) (Right q)
    same = pairs_same (both_of a b) w cut conflicts pairs asked results are answered each
