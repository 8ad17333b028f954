-- What differences show. Each law is the contract of a function of this crate.
use Rattle.std.specs.Prelude.{◌≡◌, ℕ, max, Bool, List, slice_get, Some}
use Rattle.circuit_theory.specs.Depth.{IsDepth, LatchesHaveDepths}
use Rattle.circuit_theory.specs.Fits.{MakesDiffer}
use Rattle.circuit_theory.specs.Joined.{Either, Left, Right}
use Rattle.circuit_theory.specs.Run.{IsEnabled}
use Rattle.circuit_theory.specs.Tree.{AreNumbered}
use Rattle.circuit_theory.specs.Classes.{HasClasses}
use Rattle.circuit_theory.specs.EventFits.{ReachesAlways}
use Rattle.circuit_theory.specs.Frame.{EventSide}
use Rattle.sec_setup.specs.ports.flat_net.View.{circuit_of}
use Rattle.sec_base.specs.declared.basics.PairAnswer.{PairAnswer}
use Rattle.aig.specs.Values.{value}
use Rattle.event_nodes.specs.Nodes.{EventGraphView, IsEventGraph, GrowsEvents}
use Rattle.event_nodes.specs.View.{EventCircuitView, Enabled}
use Rattle.edbf_unfold.specs.class_queries.Enables.{both_of}
use Rattle.edbf_unfold.specs.class_queries.Laws.{AreKept}
use Rattle.sec_setup.specs.declared.ports.pairs.SignalPair.{SignalPair}
use Rattle.event_form.specs.Obligation.{Obligation}
use Rattle.event_form.specs.Difference.{Difference}
use Rattle.event_form.specs.Decided.{IsFirstOf}
use Rattle.event_form.specs.Found.{IsDifferenceOf}
use Rattle.obligations.specs.declared.outcome.verdict.PairResult.{PairResult}
use Rattle.obligations.specs.outcome.pair_decide.Query.{Query}
use Rattle.obligations.specs.outcome.pair_decide.Queries.{assigned_to}
use Rattle.event_form.specs.Asked.{AreAsked, IsAskedOf}
use Rattle.event_form.specs.event_findings.event_witness.Sequences.{HasInputsBelow, rows_at}
use Rattle.event_form.specs.event_findings.event_witness.Shown.{IsShowable}

-- Where a pair that reaches class 0 alone differs, the sequence of the bits of its query, up to the greater depth of both sides, makes both signals
-- differ in all runs, whatever the circuits power up with. Each input that their unfoldings visit has a number below that of the columns.
abbrev pub AlwaysDifferencesMakeDiffer : Type 0
AlwaysDifferencesMakeDiffer = (a b : EventCircuitView) (w : EventGraphView) (cut : Bool) (p : SignalPair) (o : Obligation) (place count d e : ℕ) (bits : List Bool) → AreKept a b w → HasClasses (both_of a b) →
    LatchesHaveDepths (both_of a b).circuit (IsEnabled (both_of a b).circuit) → AreNumbered (circuit_of a.net) (circuit_of b.net) a.order b.order → HasInputsBelow (circuit_of a.net) a.order count p.left.0 → HasInputsBelow (circuit_of b.net) b.order count p.right.0 →
    IsAskedOf (both_of a b) w cut p o → ReachesAlways (both_of a b) (Left p.left.0) → ReachesAlways (both_of a b) (Right p.right.0) → IsDifferenceOf w.graph o.queries place bits →
    IsDepth (circuit_of a.net) (Enabled a) p.left.0 d → IsDepth (circuit_of b.net) (Enabled b) p.right.0 e →
    (query : Query) × (slice_get o.queries place ≡ Some query)
    × MakesDiffer (circuit_of a.net) (circuit_of b.net) a.order b.order p.left.0 p.right.0 (rows_at w query bits (max d e) count) (max d e) (value w.graph (assigned_to query.vars bits) query.left.0) (value w.graph (assigned_to query.vars bits) query.right.0)

-- What is asked of pairs can be shown where it differs.
abbrev pub DifferencesCanBeShown : Type 0
DifferencesCanBeShown = (s : EventSide (Either ℕ ℕ)) (w : EventGraphView) (cut : Bool) (pairs : List SignalPair) (asked : List Obligation) (wanted : PairAnswer) (results : List PairResult) (d : Difference) → IsEventGraph w → AreAsked s w cut pairs asked →
    IsFirstOf w.graph asked wanted results d → IsShowable w asked d

-- It differs there too while the event graph grows.
abbrev pub DifferencesGrow : Type 0
DifferencesGrow = (s : EventSide (Either ℕ ℕ)) (w x : EventGraphView) (cut : Bool) (pairs : List SignalPair) (asked : List Obligation) (wanted : PairAnswer) (results : List PairResult) (d : Difference) → IsEventGraph w → GrowsEvents w x → AreAsked s w cut pairs asked →
    IsFirstOf w.graph asked wanted results d → IsFirstOf x.graph asked wanted results d
