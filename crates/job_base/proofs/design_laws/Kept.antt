-- What a design shares with its nets: marks, runs of the cut circuits, cycles, minimal cuts and agreement onward.
use Rattle.std.proofs.Common.{ℕ, Bool, List}
use Rattle.std.specs.Prelude.{◌↔◌}
use Rattle.circuit_theory.specs.Circuit.{Circuit}
use Rattle.circuit_theory.specs.Places.{IsPlace}
use Rattle.circuit_theory.specs.Run.{Marked, NoneEnabled}
use Rattle.blif_read.specs.declared.design.BlifModel.{BlifModel}
use Rattle.blif_read.specs.Design.{circuit_of_design}
use Rattle.flat_net.specs.View.{NetView, circuit_of}
use Rattle.flatten.specs.DesignFaults.{IsClocked, IsFlatOf}
use Rattle.flatten.proofs.OneNets.{single_driven}
use Rattle.job_base.specs.design_laws.Laws.{MarksAreKept, CutRunsAreKept, CyclesAreKept, MinimalCutsAreKept, AgreementIsKept}
use Rattle.job_base.proofs.design_laws.FlatParts.{FlatDesign, run_down, run_up}
use Rattle.job_base.proofs.design_laws.FlatMarks.{mark_down, mark_along, mark_up}
use Rattle.job_base.proofs.design_laws.FlatCycles.{cycle_down, cycle_up}
use Rattle.job_base.proofs.design_laws.CutFlats.{cut_design}
use Rattle.job_base.proofs.design_laws.FlatOnward.{minimal_up, minimal_down, onward_up}
use Rattle.job_base.proofs.design_laws.FlatBack.{onward_down}

-- the net of a design is its flat circuit
abbrev pub flat_design : (models : List BlifModel) (net : NetView) → IsFlatOf models net → FlatDesign (circuit_of_design models net.clock) (circuit_of net) (IsClocked (circuit_of_design models net.clock) net.clock)
flat_design models net f = record {
  size = _;
  origin = f.origin;
  signal = f.signal;
  single = single_driven (circuit_of_design models net.clock) net.clock f.once;
  circuit = f.circuit;
}

-- a place with a signal is settled where that is
both_marked : {P : Type 0} {d : Circuit P} {net : Circuit ℕ} {clocked : P → Type 0} (f : FlatDesign d net clocked) (left : ℕ → P → Bool) (right : ℕ → ℕ → Bool) (t : ℕ) (p : P) → (clocked p → ⊥) → IsPlace d p →
    Marked d NoneEnabled left t p ↔ Marked net NoneEnabled right t (f.signal p)
both_marked f left right t p free at = (
  λ m. mark_down f left right m,
  λ m. mark_along f left right (f.circuit.placed p at free).follows (mark_up f left right m),
)

pub marks_are_kept : MarksAreKept
marks_are_kept models net f left right t p free = (
  λ at. both_marked (flat_design models net f) left right t p free at,
  λ names at. both_marked (cut_design names (flat_design models net f)) left right t p free at,
)

pub cut_runs_are_kept : CutRunsAreKept
cut_runs_are_kept models net f names n = (λ run is. run_down (cut_design names (flat_design models net f)) n run is, λ run is. run_up (cut_design names (flat_design models net f)) n run is)

pub cycles_are_kept : CyclesAreKept
cycles_are_kept models net f removed = (λ h. cycle_down (flat_design models net f) removed h, λ h. cycle_up (flat_design models net f) removed h)

pub minimal_cuts_are_kept : MinimalCutsAreKept
minimal_cuts_are_kept left right a b f g names = (λ m. minimal_down (flat_design left a f) (flat_design right b g) names m, λ m. minimal_up (flat_design left a f) (flat_design right b g) names m)

pub agreement_is_kept : AgreementIsKept
agreement_is_kept left right a b f g names = (λ h. onward_down (flat_design left a f) (flat_design right b g) names h, λ h. onward_up (flat_design left a f) (flat_design right b g) names h)
