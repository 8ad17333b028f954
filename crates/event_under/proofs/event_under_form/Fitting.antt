-- What is found of pairs fits the circuits under each assumption of the premise.
use Rattle.std.proofs.Common.{◌≡◌, ◌∙◌, ℕ, Bool, List, length, sym, ap, subst}
use Rattle.event_nodes.specs.View.{EventCircuitView}
use Rattle.event_form.specs.event_agreement.pair_events.Laws.{AreKept}
use Rattle.event_form.specs.event_agreement.pair_events.View.{EventsView, IsEvents}
use Rattle.obligations.specs.declared.outcome.verdict.PairResult.{PairResult}
use Rattle.event_form.specs.Asked.{IsLater}
use Rattle.event_form.specs.event_findings.Compared.{AreCompared}
use Rattle.event_form.specs.declared.event_findings.findings.EventFindings.{EventFindings}
use Rattle.event_form.specs.declared.event_findings.pairs.EventPairs.{EventPairs}
use Rattle.event_comparison.specs.Asked.{AreAskedFrom}
use Rattle.assume_queries.specs.assume_sequences.Assumed.{CanBeAssumed}
use Rattle.assume_queries.specs.declared.assume_sequences.premise.Premise.{Premise}
use Rattle.assume_queries.proofs.assume_sequences.Numbers.{number_below}
use Rattle.assume_queries.specs.assume_sequences.Filled.{bit_of}
use Rattle.assume_laws.specs.assume_shape.Shape.{assumption_of}
use Rattle.assume_laws.specs.Sequences.{IsMeetingRow}
use Rattle.event_under.specs.event_shown_under.event_under_fits.Findings.{FindingsFitUnder}
use Rattle.event_under.proofs.event_under_form.event_under_verdicts.Firsts as verdicts
use Rattle.event_under.specs.event_under_form.Asked.{AreAskedAssumed, CanShow}
use Rattle.event_under.specs.event_under_form.Formed.{AreFoundUnder, FindingsFitAssumed}
use Rattle.event_under.specs.declared.event_under_form.verdict.Shows.{Shows}

-- a verdict can be shown on what is asked
pub can_show_on : (e : EventsView) (c : EventPairs) (p : Premise) (s : Shows) → CanBeAssumed p (length c.names.now) → s.meeting.now ≡ p.meeting → AreAskedFrom e s.aparts.now c s.asked.now → AreAskedAssumed e c p s.asked.now s.questions.now → CanShow e c s
can_show_on e c p s a same plain asked = record {
  plain = plain;
  questions = record { assumption = assumption_of a.net a.inputs a.output; under = asked.under a.net a.inputs a.output a.size a.is; ranked = asked.ranked };
  row = ap length same ∙ a.bits;
}

-- what is found fits
pub assumed_fit : (mid new : EventsView) → IsLater mid new → AreKept mid.left mid.right mid.events → IsEvents mid → (c : EventPairs) (p : Premise) (conflicts : ℕ) (s : Shows) → s.meeting.now ≡ p.meeting → AreCompared mid.left mid.right c →
    AreAskedAssumed mid c p s.asked.now s.questions.now → (f : EventFindings) → AreFoundUnder mid.events new c conflicts s f → FindingsFitAssumed new.left new.right c p conflicts f
assumed_fit mid new later kept is c p conflicts s same compared asked f found n inputs output size assumed =
    subst (λ (b : EventCircuitView). FindingsFitUnder (assumption_of n inputs output) new.left b (bit_of p.meeting) c conflicts f) (sym later.right)
    (subst (λ (a : EventCircuitView). FindingsFitUnder (assumption_of n inputs output) a mid.right (bit_of p.meeting) c conflicts f) (sym later.left)
    (subst (λ (row : List Bool). FindingsFitUnder (assumption_of n inputs output) mid.left mid.right (bit_of row) c conflicts f) same own))
  where
    whole : FindingsFitUnder (assumption_of n inputs output) mid.left mid.right (bit_of s.meeting.now) c conflicts (record { pairs = found.decided.results; verdict = f.verdict })
    whole =
        verdicts.findings_fit (assumption_of n inputs output) mid.left mid.right mid.events c s.questions.now conflicts s.asked.now (bit_of s.meeting.now) kept is.classes is.depths compared asked.distinct
        (λ q i. number_below p (length c.names.now) n inputs output size assumed i q) (subst (λ (row : List Bool). IsMeetingRow (assumption_of n inputs output) (length c.names.now) (bit_of row)) (sym same) assumed.row)
        (asked.under n inputs output size assumed) new later.left later.right found.decided found.at f.verdict found.have found.found found.shown

    own : FindingsFitUnder (assumption_of n inputs output) mid.left mid.right (bit_of s.meeting.now) c conflicts f
    own = subst (λ (rs : List PairResult). FindingsFitUnder (assumption_of n inputs output) mid.left mid.right (bit_of s.meeting.now) c conflicts (record { pairs = rs; verdict = f.verdict })) (sym found.results) whole
