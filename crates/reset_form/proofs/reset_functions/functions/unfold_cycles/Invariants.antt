use Rattle.std.proofs.Common.{◌≡◌, ℕ, length, slice_get, Some}
use Rattle.cbf_unfold.specs.declared.unfold_places.signal_function.Unfolded.{Unfolded}
use Rattle.reset_form.specs.reset_unfold.Unfolded.{IsResetUnfolded, FitsReset}
use Rattle.reset_form.specs.reset_unfold.Building.{IsLaterReset}
use Rattle.reset_form.specs.reset_unfold.Cone.{IsCone}
use Rattle.reset_form.proofs.reset_functions.Growing.{HasDone}
use Rattle.reset_form.proofs.reset_functions.functions.unfold_cycles.Given as goal

abbrev pub invariant-loop-cycle : goal.invariant-loop-cycle
invariant-loop-cycle l = record {
  fits : FitsReset l.unfolder l.aig l.places;
  later : IsLaterReset l.initial.unfolder l.unfolder l.initial.aig l.aig l.initial.places l.places;
  done : HasDone l.fn.top.1 l._cycle l.initial.unfolder.done l.unfolder.done;
  each : length l.cycles ≡ l._cycle;
  are : (t : ℕ) (u : Unfolded) → slice_get l.cycles t ≡ Some u →
      IsResetUnfolded l.initial.unfolder.net l.initial.unfolder.order l.initial.unfolder.base l.aig l.places l.fn.top.1 t u.lit.0 u.vars;
  cone : IsCone l.unfolder.net l.unfolder.order l.unfolder.base l.cone;
  signal : l.cone.signal ≡ l.fn.top.1;
  last : l.cone.last ≡ l.fn.top.0;
  next : l.cone.next ≡ l._cycle;
}
