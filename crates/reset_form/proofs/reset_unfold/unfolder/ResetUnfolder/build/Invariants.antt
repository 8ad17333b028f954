use Rattle.std.proofs.Common.{◌≡◌, ◌<◌, ℕ, slice_get, Some}
use Rattle.cbf_unfold.specs.unfold_places.Reach.{IsMet}
use Rattle.reset_form.specs.reset_unfold.Unfolded.{Holds}
use Rattle.reset_form.specs.reset_unfold.Building.{IsLaterReset}
use Rattle.reset_form.proofs.reset_unfold.unfolder.ResetUnfolder.build.Given as goal

abbrev pub invariant-loop-place : goal.invariant-loop-place
invariant-loop-place l = record {
  holds : Holds l.self l.aig l.places;
  met : (j : ℕ) (q : ℕ × ℕ) → j < l.place-index → slice_get l.reach j ≡ Some q → IsMet l.self.memo q;
  done : l.self.done ≡ l.initial.self.done;
  later : IsLaterReset l.initial.self l.self l.initial.aig l.aig l.initial.places l.places;
}
