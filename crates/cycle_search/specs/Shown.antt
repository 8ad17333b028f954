-- What shows the verdict of a cycle.
use Rattle.std.specs.Prelude.{◌≡◌, ℕ, ◌<◌, List, length, Some, slice_get}
use Rattle.obligations.specs.declared.outcome.verdict.PairResult.{PairResult}
use Rattle.obligations.specs.declared.outcome.verdict.ResetWitness.{ResetWitness}
use Rattle.obligations.specs.declared.obligation.Obligation.{Obligation}
use Rattle.obligations.specs.declared.verdict.VerdictAt.{VerdictAt}
use Rattle.obligations.specs.declared.verdict.VerdictAt.TheVariants as at
use Rattle.sec_setup.specs.declared.setup.Setup.{Setup}
use Rattle.reset_form.specs.declared.reset_functions.bases.Bases.{Bases}
use Rattle.reset_form.specs.declared.reset_functions.functions.Functions.{Functions}
use Rattle.reset_form.specs.declared.reset_asked.findings.ResetVerdict.{ResetVerdict}
use Rattle.reset_form.specs.declared.reset_asked.findings.ResetVerdict.TheVariants as verdict
pub use Rattle.reset_form.specs.Shown.{IsShowableIn, IsWitnessIn}

abbrev pub CanBeShownIn : Functions → List Obligation → List PairResult → VerdictAt → Type 0
CanBeShownIn f asked results at.Equal = Unit {0}
CanBeShownIn f asked results (at.Different d) = IsShowableIn f asked d
CanBeShownIn f asked results (at.Limit place) = place < length results
CanBeShownIn f asked results (at.NotShown d) = ⊥

abbrev pub IsShownIn : Setup → Bases → Functions → List Obligation → List PairResult → ℕ → VerdictAt → ResetVerdict → Type 0
IsShownIn s b f asked results cycle at.Equal v = v ≡ verdict.Equal
IsShownIn s b f asked results cycle (at.Different d) v = (w : ResetWitness) × (v ≡ verdict.Different w) × IsWitnessIn s b f asked cycle d w
IsShownIn s b f asked results cycle (at.Limit place) v = (r : PairResult) × (slice_get results place ≡ Some r) × (v ≡ verdict.Limit r.name)
IsShownIn s b f asked results cycle (at.NotShown d) v = ⊥
