-- How the parts of a report end.
use Rattle.std.proofs.Common.{◌≡◌, ◌<◌, ℕ, Bool, List, Option, None, Result, Ok, Err, arith}
use Rattle.std.specs.Prelude.{IfOk}
use Rattle.circuit_theory.specs.declared.Mode.{Mode}
use Rattle.circuit_theory.specs.declared.Mode.TheVariants.{Plain, Event}
use Rattle.circuit_laws.proofs.Weights.{cone_over_is_above}
use Rattle.flat_net.specs.View.{NetView, circuit_of}
use Rattle.flat_net.specs.Sound.{IsSound}
use Rattle.flat_net.proofs.Nets.{sound_is_net}
use Rattle.signal_graph.specs.declared.inner_cone.latch_cone.kinds.LatchKind.{LatchKind}
use Rattle.signal_graph.specs.inner_cone.latch_cone.Kinds.{AreKindsIn}
use Rattle.latch_kinds.specs.declared.kinds.KindsError.{KindsError}
use Rattle.latch_kinds.specs.declared.kinds.KindsError.TheVariants as kinds_error
use Rattle.latch_kinds.specs.unate_enable.Cones.{data_of_latch}
use Rattle.latch_kinds.specs.Found.{FoundIn}
use Rattle.circuit_report.specs.sim_report.Checks.{first_misfit}
use Rattle.circuit_report.specs.declared.graph_report.runs.SimulateError.{SimulateError}
use Rattle.circuit_report.specs.declared.graph_report.runs.SimulateError.TheVariants as refused
use Rattle.circuit_report.specs.graph_report.Jobs.{AreLightIn, IsUnknown, Runs, Simulates, simulate_error}

-- what is found out says what the latches are
pub kinds_are : (mode : Mode) (n : NetView) (conflicts : ℕ) (kinds : List LatchKind) → FoundIn mode n conflicts (Ok kinds) → AreKindsIn mode n kinds
kinds_are Plain n conflicts kinds found = found
kinds_are Event n conflicts kinds found = found.0

-- want of memory says nothing
pub memory_wanted : (mode : Mode) (n : NetView) → IsUnknown mode n kinds_error.NoMemory
memory_wanted Plain n = tt
memory_wanted Event n = tt

-- a cone that is too large isn't light
pub large_or_light : (mode : Mode) (n : NetView) → IsSound n → IsUnknown mode n kinds_error.TooLarge → AreLightIn mode n → ⊥
large_or_light Plain n sound large light = large
large_or_light Event n sound large light =
    let l = light large.latch large.within large.large.0 in
    let over = cone_over_is_above (circuit_of n) (sound_is_net n sound).single (data_of_latch n large.latch) 2000000 l.weight large.large.1 l.weight_is in
    omega (arith, over, l.within)
