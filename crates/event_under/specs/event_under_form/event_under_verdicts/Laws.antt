-- What is found of pairs fits the circuits under an assumption. The law is the contract of a function of this crate.
use Rattle.std.specs.Prelude.{◌≡◌, ℕ, ◌<◌, Bool, List, length}
use Rattle.circuit_theory.specs.Depth.{LatchesHaveDepths}
use Rattle.circuit_theory.specs.Run.{IsEnabled}
use Rattle.circuit_theory.specs.Tree.{IsInputNumber}
use Rattle.circuit_theory.specs.Classes.{HasClasses}
use Rattle.base_tables.specs.Table.{AreDistinct}
use Rattle.edbf_unfold.specs.class_queries.Enables.{both_of}
use Rattle.edbf_unfold.specs.class_queries.Laws.{AreKept}
use Rattle.event_nodes.specs.Nodes.{EventGraphView}
use Rattle.event_nodes.specs.View.{EventCircuitView}
use Rattle.event_under.specs.event_shown_under.event_under_fits.event_agreement.View.{EventsView}
use Rattle.obligations.specs.declared.decision.Decided.{Decided}
use Rattle.obligations.specs.declared.obligation.Obligation.{Obligation}
use Rattle.obligations.specs.declared.verdict.VerdictAt.{VerdictAt}
use Rattle.obligations.specs.Decided.{HaveDecided}
use Rattle.obligations.specs.Verdict.{IsVerdictAt}
use Rattle.event_under.specs.event_shown_under.event_under_fits.event_findings.Compared.{AreCompared}
use Rattle.event_under.specs.event_shown_under.event_under_fits.event_findings.EventPairs.{EventPairs}
use Rattle.event_under.specs.event_shown_under.event_under_fits.event_findings.EventVerdict.{EventVerdict}
use Rattle.assume_laws.specs.Assume.{Assumption}
use Rattle.assume_laws.specs.Sequences.{IsMeetingRow}
use Rattle.event_under.specs.Asked.{AreAskedUnder}
use Rattle.event_under.specs.event_shown_under.event_under_fits.Findings.{FindingsFitUnder}
use Rattle.event_under.specs.declared.event_asked_under.asked.EventQuestions.{EventQuestions}
use Rattle.event_under.specs.event_asked_under.Questions.{named_at}
use Rattle.event_under.specs.event_under_form.event_under_verdicts.Shown.{IsShownUnder}

-- The pairs were asked over the event graph w, and then under the assumption over a graph of its own, over which each query was decided; the event
-- graph may have grown since.
abbrev pub VerdictsFitUnder : Type 0
VerdictsFitUnder = (c : Assumption) (a b : EventCircuitView) (w : EventGraphView) (e : EventPairs) (x : EventQuestions) (conflicts : ℕ) (asked : List Obligation) (meeting : ℕ → Bool) → AreKept a b w → HasClasses (both_of a b) →
    LatchesHaveDepths (both_of a b).circuit (IsEnabled (both_of a b).circuit) → AreCompared a b e → AreDistinct (named_at w.children x) → ((p i : ℕ) → IsInputNumber c.circuit c.order p i → i < length e.names.now) → IsMeetingRow c (length e.names.now) meeting →
    AreAskedUnder c (both_of a b) w x.aig (named_at w.children x) e.cut e.pairs.now asked x.asked.items → (later : EventsView) → later.left ≡ a → later.right ≡ b → (d : Decided) (y : VerdictAt) (v : EventVerdict) → HaveDecided x.aig conflicts x.asked.items d →
    IsVerdictAt d.different d.not_shown d.results y → IsShownUnder w later e asked x meeting d.results y v → FindingsFitUnder c a b meeting e conflicts (record { pairs = d.results; verdict = v })
