-- What shows the verdict at an obligation.
use Rattle.std.specs.Prelude.{◌≡◌, List, slice_get, Some}
use Rattle.sec_setup.specs.declared.ports.pairs.SignalPair.{SignalPair}
use Rattle.obligations.specs.declared.obligation.Difference.{Difference}
use Rattle.obligations.specs.declared.obligation.Obligation.{Obligation}
use Rattle.obligations.specs.declared.verdict.VerdictAt.{VerdictAt}
use Rattle.obligations.specs.declared.verdict.VerdictAt.TheVariants as at
use Rattle.obligations.specs.declared.outcome.verdict.PairResult.{PairResult}
use Rattle.event_form.specs.event_agreement.pair_events.View.{EventsView, side_of_both}
use Rattle.witness_report.specs.declared.witness.Witness.{Witness}
use Rattle.event_form.specs.event_findings.event_witness.Shown.{IsWitnessAt, IsUnshownAt}
use Rattle.event_form.specs.event_findings.unshown_pairs.Reached.{BothReachAlways}
use Rattle.event_form.specs.event_findings.unshown_pairs.Separations.{AreToldApart}
use Rattle.event_form.specs.declared.event_findings.pairs.EventPairs.{EventPairs}
use Rattle.event_form.specs.declared.event_findings.verdict.EventVerdict.{EventVerdict}
use Rattle.event_form.specs.declared.event_findings.verdict.EventVerdict.TheVariants as verdict

-- what holds of the pair of a difference
abbrev pub OfPair : EventPairs → Difference → (SignalPair → Type 0) → Type 0
OfPair c d P = (p : SignalPair) → slice_get c.pairs.now d.pair ≡ Some p → P p

-- a difference that isn't decisive: the sequence where its pair reaches class 0 alone, or else the frame, and what tells the pair's classes apart
abbrev pub IsShownUnshown : EventsView → EventPairs → List Obligation → Difference → EventVerdict → Type 0
IsShownUnshown e c asked d verdict.Equal = ⊥
IsShownUnshown e c asked d (verdict.Different x) = ⊥
IsShownUnshown e c asked d (verdict.Limit name) = ⊥
IsShownUnshown e c asked d (verdict.Cut x) = IsWitnessAt e.events asked c.depths.now c.names.now d x × OfPair c d (BothReachAlways (side_of_both e))
IsShownUnshown e c asked d (verdict.Events x) = IsUnshownAt e.events asked d x.frame × OfPair c d (λ p. AreToldApart e.left e.right p x.apart)

abbrev pub IsShown : EventsView → EventPairs → List Obligation → List PairResult → VerdictAt → EventVerdict → Type 0
IsShown e c asked results at.Equal v = v ≡ verdict.Equal
IsShown e c asked results (at.Different d) v = (x : Witness) × (v ≡ verdict.Different x) × IsWitnessAt e.events asked c.depths.now c.names.now d x
IsShown e c asked results (at.Limit place) v = (r : PairResult) × (slice_get results place ≡ Some r) × (v ≡ verdict.Limit r.name)
IsShown e c asked results (at.NotShown d) v = IsShownUnshown e c asked d v
