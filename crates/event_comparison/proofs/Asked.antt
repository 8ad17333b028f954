-- What is asked of pairs, and what that says of the pair at a place.
use Rattle.std.proofs.Common.{◌≡◌, ◌∙◌, ℕ, Bool, true, false, List, [], ◌∷◌, length, Option, Some, None, sym}
use Rattle.std.specs.List.{AllZip}
use Rattle.circuit_theory.specs.Joined.{Either}
use Rattle.circuit_theory.proofs.Lists.{zip_length}
use Rattle.circuit_theory.specs.Frame.{EventSide}
use Rattle.sec_base.specs.declared.basics.PairAnswer.{PairAnswer}
use Rattle.sec_base.specs.declared.basics.PairAnswer.TheVariants as answer
use Rattle.aig.specs.declared.node.Node.{Node}
use Rattle.event_nodes.specs.Nodes.{EventGraphView, IsEventGraph}
use Rattle.event_nodes.specs.View.{EventCircuitView}
use Rattle.sec_setup.specs.declared.ports.pairs.SignalPair.{SignalPair}
use Rattle.obligations.specs.declared.obligation.Obligation.{Obligation}
use Rattle.obligations.specs.Decided.{AnswerIs, IsAnswered}
use Rattle.obligations.specs.declared.outcome.verdict.PairResult.{PairResult}
use Rattle.pair_decide.specs.declared.query.Proof.{Proof}
use Rattle.event_form.specs.Answers.{PairFits}
use Rattle.event_form.specs.Asked.{AreAsked, IsAskedOf}
use Rattle.event_form.proofs.Answers.{answers_are_fit}
use Rattle.event_form.specs.event_findings.Compared.{IsEventDepth}

-- each result is that of its pair
pub results_fit : (s : EventSide (Either ℕ ℕ)) (w : EventGraphView) (cut : Bool) (conflicts : ℕ) → IsEventGraph w → (pairs : List SignalPair) (asked : List Obligation) (results : List PairResult) → AreAsked s w cut pairs asked → AllZip (IsAnswered w.graph conflicts) asked results →
    AllZip (PairFits s cut conflicts) pairs results
results_fit s w cut conflicts is [] [] [] are answered = tt
results_fit s w cut conflicts is [] [] (r ∷ results) are answered = absurd answered
results_fit s w cut conflicts is [] (o ∷ asked) results are answered = absurd are
results_fit s w cut conflicts is (p ∷ pairs) [] results are answered = absurd are
results_fit s w cut conflicts is (p ∷ pairs) (o ∷ asked) [] are answered = absurd answered
results_fit s w cut conflicts is (p ∷ pairs) (o ∷ asked) (r ∷ results) are answered =
    (answers_are_fit s w cut conflicts p o r is are.0 answered.0, results_fit s w cut conflicts is pairs asked results are.1 answered.1)

-- what is different is decisive
pub is_decisive : (g : List Node) (conflicts : ℕ) (o : Obligation) (y : PairAnswer) (proof : Option Proof) → y ≡ answer.Different → AnswerIs g conflicts o y proof → o.decisive ≡ true
is_decisive g conflicts o answer.Different None e h = h.0
is_decisive g conflicts o answer.Different (Some proof) e h = absurd h
is_decisive g conflicts o answer.Equal proof e h = cc
is_decisive g conflicts o answer.NotShown proof e h = cc
is_decisive g conflicts o answer.Limit proof e h = cc

-- what isn't shown isn't
pub isnt_decisive : (g : List Node) (conflicts : ℕ) (o : Obligation) (y : PairAnswer) (proof : Option Proof) → y ≡ answer.NotShown → AnswerIs g conflicts o y proof → o.decisive ≡ false
isnt_decisive g conflicts o answer.NotShown None e h = h.0
isnt_decisive g conflicts o answer.NotShown (Some proof) e h = absurd h
isnt_decisive g conflicts o answer.Equal proof e h = cc
isnt_decisive g conflicts o answer.Different proof e h = cc
isnt_decisive g conflicts o answer.Limit proof e h = cc

-- there are as many depths as obligations
pub depths_long : (a b : EventCircuitView) (s : EventSide (Either ℕ ℕ)) (w : EventGraphView) (cut : Bool) (pairs : List SignalPair) (asked : List Obligation) (depths : List ℕ) → AreAsked s w cut pairs asked → AllZip (IsEventDepth a b) pairs depths → length depths ≡ length asked
depths_long a b s w cut pairs asked depths are deep = sym (zip_length (IsEventDepth a b) pairs depths deep) ∙ zip_length (IsAskedOf s w cut) pairs asked are
