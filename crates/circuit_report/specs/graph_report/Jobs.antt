-- What is true where a report on one circuit ends as it does.
use Rattle.std.specs.Prelude.{◌≡◌, ℕ, Bool, List, Option, Some, None, Result, Ok, Err}
use Rattle.circuit_theory.specs.declared.Mode.{Mode}
use Rattle.circuit_theory.specs.declared.Mode.TheVariants.{Plain, Event}
use Rattle.sec_base.specs.declared.limits.TheConstants.{DEFAULT_CONFLICTS}
use Rattle.flat_net.specs.View.{NetView}
use Rattle.pair_decide.specs.declared.query.Proof.{Proof}
use Rattle.circuit_report.specs.graph_report.Report.{IsGraphReport}
use Rattle.circuit_report.specs.sim_report.Checks.{first_misfit}
use Rattle.circuit_report.specs.sim_report.Report.{IsSimReport}
use Rattle.latch_kinds.specs.declared.kinds.KindsError.{KindsError}
use Rattle.latch_kinds.specs.declared.kinds.KindsError.TheVariants as kinds_error
use Rattle.latch_kinds.specs.Found.{FoundIn, AreLight}
use Rattle.circuit_report.specs.declared.graph_report.runs.SimulateError.{SimulateError}
use Rattle.circuit_report.specs.declared.graph_report.runs.SimulateError.TheVariants as refused

-- in the event mode no latch in its own cone has a cone that is too large
abbrev pub AreLightIn : Mode → NetView → Type 0
AreLightIn Plain n = Unit {0}
AreLightIn Event n = AreLight n

-- it isn't known what a latch is, for this reason
abbrev pub IsUnknown : Mode → NetView → KindsError → Type 0
IsUnknown mode n error = FoundIn mode n DEFAULT_CONFLICTS (Err error)

-- the report of the latch graph, or why there is none
abbrev pub Tells : Mode → NetView → Result (List ℕ) KindsError → Type 0
Tells mode n (Ok report) = IsGraphReport mode n report × AreLightIn mode n
Tells mode n (Err error) = IsUnknown mode n error

abbrev pub simulate_error : KindsError → SimulateError
simulate_error kinds_error.TooLarge = refused.TooLarge
simulate_error (kinds_error.Limit name proof) = refused.Limit name proof
simulate_error kinds_error.NoMemory = refused.NoMemory

-- the report of a run over a stimulus that fits, or why there is none
abbrev pub Runs : Mode → NetView → List (List ℕ) → List (List Bool) → Option (List ℕ) → Bool → Result (List ℕ) SimulateError → Type 0
Runs mode n names rows power reset (Ok report) = IsSimReport mode n names rows power reset report × AreLightIn mode n
Runs mode n names rows power reset (Err (refused.Misfit m)) = ⊥
Runs mode n names rows power reset (Err refused.TooLarge) = IsUnknown mode n kinds_error.TooLarge
Runs mode n names rows power reset (Err (refused.Limit name proof)) = IsUnknown mode n (kinds_error.Limit name proof)
Runs mode n names rows power reset (Err refused.NoMemory) = Unit {0}

-- the same over any stimulus, where the first that doesn't fit is refused first
abbrev pub Simulates : Mode → NetView → List (List ℕ) → List (List Bool) → Option (List ℕ) → Bool → Result (List ℕ) SimulateError → Type 0
Simulates mode n names rows power reset (Ok report) = (first_misfit n names power ≡ None) × Runs mode n names rows power reset (Ok report)
Simulates mode n names rows power reset (Err (refused.Misfit m)) = first_misfit n names power ≡ Some m
Simulates mode n names rows power reset (Err refused.TooLarge) = (first_misfit n names power ≡ None) × Runs mode n names rows power reset (Err refused.TooLarge)
Simulates mode n names rows power reset (Err (refused.Limit name proof)) = (first_misfit n names power ≡ None) × Runs mode n names rows power reset (Err (refused.Limit name proof))
Simulates mode n names rows power reset (Err refused.NoMemory) = Unit {0}
