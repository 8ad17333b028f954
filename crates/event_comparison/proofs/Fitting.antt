-- What is found of pairs that were asked about fits the circuits, once the event graph has grown.
use Rattle.std.proofs.Common.{◌≡◌, ℕ, List, subst}
use Rattle.std.specs.List.{All}
use Rattle.edbf_unfold.specs.class_queries.Laws.{AreKept}
use Rattle.event_nodes.specs.Nodes.{IsEventGraph}
use Rattle.obligations.specs.declared.obligation.Obligation.{Obligation}
use Rattle.obligations.specs.declared.outcome.verdict.PairResult.{PairResult}
use Rattle.event_form.specs.event_agreement.pair_events.View.{EventsView, IsEvents, side_of_both}
use Rattle.sec_base.specs.declared.basics.PairAnswer.TheVariants as answer
use Rattle.event_form.specs.Asked.{AreAsked, IsLater}
use Rattle.event_form.proofs.Asking.{all_asked_on}
use Rattle.event_comparison.specs.Agreement.{CircuitsAgree}
use Rattle.event_form.specs.event_findings.Compared.{AreCompared}
use Rattle.event_comparison.specs.Decided.{AreFound}
use Rattle.event_form.specs.event_findings.Findings.{FindingsFit, VerdictFits}
use Rattle.event_form.specs.declared.event_findings.findings.EventFindings.{EventFindings}
use Rattle.event_form.specs.declared.event_findings.pairs.EventPairs.{EventPairs}
use Rattle.event_form.specs.declared.event_findings.verdict.EventVerdict.TheVariants as verdict
use Rattle.event_comparison.proofs.Agreeing.{circuits_agree}
use Rattle.event_comparison.proofs.Comparing.{agree_later, asked_before, compared_later}
use Rattle.event_comparison.proofs.Firsts.{findings_fit}

pub compared_fits : (old mid new : EventsView) → IsLater old mid → IsLater mid new → IsEventGraph mid.events → AreKept new.left new.right new.events → IsEvents new → (c : EventPairs) (conflicts : ℕ) (asked listed : List Obligation) → listed ≡ asked → AreCompared old.left old.right c →
    AreAsked (side_of_both mid) mid.events c.cut c.pairs.now asked → (f : EventFindings) → AreFound mid.events new c conflicts listed f → FindingsFit new.left new.right c conflicts f
compared_fits old mid new first second graph kept is c conflicts asked listed same compared are f found =
    findings_fit mid.events new c conflicts asked graph second.grows kept is.classes is.depths (compared_later mid new second c (compared_later old mid first c compared))
    (asked_before mid new second c.cut c.pairs.now asked are) (all_asked_on mid new graph kept.events second c.cut c.pairs.now asked are) f (subst (λ (os : List Obligation). AreFound mid.events new c conflicts os f) same found)

pub compared_agree : (old mid new : EventsView) → IsLater old mid → IsLater mid new → AreKept mid.left mid.right mid.events → IsEvents mid → AreKept new.left new.right new.events → IsEvents new → (c : EventPairs) (conflicts : ℕ) (asked listed : List Obligation) → listed ≡ asked →
    AreCompared old.left old.right c → AreAsked (side_of_both mid) mid.events c.cut c.pairs.now asked → (f : EventFindings) → AreFound mid.events new c conflicts listed f → f.verdict ≡ verdict.Equal → CircuitsAgree new.left new.right c.pairs.now
compared_agree old mid new first second before was kept is c conflicts asked listed same compared are f found equal =
    agree_later mid new second c.pairs.now (circuits_agree mid.left mid.right mid.events c.cut conflicts c.pairs.now asked whole.decided.results before was.classes was.depths (compared_later old mid first c compared).numbers are whole.have.results each)
  where
    whole : AreFound mid.events new c conflicts asked f
    whole = subst (λ (os : List Obligation). AreFound mid.events new c conflicts os f) same found

    fits : FindingsFit new.left new.right c conflicts f
    fits = compared_fits old mid new first second before.events kept is c conflicts asked listed same compared are f found

    each : All (λ (r : PairResult). r.answer ≡ answer.Equal) whole.decided.results
    each = subst (λ (rs : List PairResult). All (λ (r : PairResult). r.answer ≡ answer.Equal) rs) whole.results (subst (VerdictFits new.left new.right c f.pairs) equal fits.verdict_is)
