-- What follows from the answers of the event form. Each law is the contract of a function of this crate.
use Rattle.std.specs.Prelude.{◌≡◌, ℕ, Bool, List, [], All, Contains}
use Rattle.std.specs.List.{AllZip}
use Rattle.circuit_theory.specs.declared.Mode.TheVariants.{Event}
use Rattle.circuit_theory.specs.Agree.{IsPair, Agree}
use Rattle.circuit_theory.specs.Depth.{LatchesHaveDepths}
use Rattle.circuit_theory.specs.Joined.{Either}
use Rattle.circuit_theory.specs.Run.{IsEnabled}
use Rattle.circuit_theory.specs.Tree.{AreNumbered}
use Rattle.circuit_theory.specs.Classes.{HasClasses}
use Rattle.circuit_theory.specs.Frame.{EventSide}
use Rattle.sec_setup.specs.ports.flat_net.View.{circuit_of}
use Rattle.aig.specs.sec_base.PairAnswer.TheVariants as answer
use Rattle.event_nodes.specs.Nodes.{EventGraphView, IsEventGraph}
use Rattle.event_nodes.specs.View.{EventCircuitView}
use Rattle.event_form.specs.event_agreement.pair_events.Enables.{both_of}
use Rattle.event_form.specs.event_agreement.pair_events.Laws.{AreKept}
use Rattle.sec_setup.specs.declared.ports.pairs.SignalPair.{SignalPair}
use Rattle.obligations.specs.declared.obligation.Obligation.{Obligation}
use Rattle.obligations.specs.Decided.{IsAnswered}
use Rattle.obligations.specs.Found.{IsDifferenceOf}
use Rattle.obligations.specs.declared.outcome.verdict.PairResult.{PairResult}
use Rattle.event_form.specs.Asked.{IsAskedOf, AreAsked}
use Rattle.event_form.specs.Answers.{PairFits, IsFrameOf}

-- The answer to what is asked of a pair fits the pair.
abbrev pub AnswersFit : Type 0
AnswersFit = (s : EventSide (Either ℕ ℕ)) (w : EventGraphView) (cut : Bool) (conflicts : ℕ) (p : SignalPair) (o : Obligation) (r : PairResult) → IsEventGraph w → IsAskedOf s w cut p o → IsAnswered w.graph conflicts o r → PairFits s cut conflicts p r

-- Where it differs, the bits of its query's variables are a frame.
abbrev pub DifferencesAreFrames : Type 0
DifferencesAreFrames = (s : EventSide (Either ℕ ℕ)) (w : EventGraphView) (cut : Bool) (p : SignalPair) (o : Obligation) (place : ℕ) (bits : List Bool) → IsEventGraph w → IsAskedOf s w cut p o → IsDifferenceOf w.graph o.queries place bits → IsFrameOf s w p o.queries place bits

-- the pairs are all that are compared
abbrev pub AreAllPairs : EventCircuitView → EventCircuitView → List SignalPair → Type 0
AreAllPairs a b pairs = (p q : ℕ) → IsPair [] (circuit_of a.net) (circuit_of b.net) p q → (x : SignalPair) × Contains pairs x × (x.left.0 ≡ p) × (x.right.0 ≡ q)

-- Where all pairs of outputs are equal, the circuits agree in the event mode.
abbrev pub EqualPairsAgree : Type 0
EqualPairsAgree = (a b : EventCircuitView) (w : EventGraphView) (cut : Bool) (conflicts : ℕ) (pairs : List SignalPair) (asked : List Obligation) (results : List PairResult) → AreKept a b w → HasClasses (both_of a b) →
    LatchesHaveDepths (both_of a b).circuit (IsEnabled (both_of a b).circuit) → AreNumbered (circuit_of a.net) (circuit_of b.net) a.order b.order → AreAsked (both_of a b) w cut pairs asked → AllZip (IsAnswered w.graph conflicts) asked results →
    All (λ (r : PairResult). r.answer ≡ answer.Equal) results → AreAllPairs a b pairs → Agree Event (circuit_of a.net) (circuit_of b.net)
