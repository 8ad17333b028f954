use Rattle.std.proofs.Common.{ℕ, take}
use Rattle.std.specs.Prelude.{◌↔◌}
use Rattle.std.specs.List.{AllZip, Contains}
use Rattle.reset_form.specs.reset_unfold.Unfolded.{FitsReset}
use Rattle.reset_form.specs.reset_unfold.Building.{IsLaterReset}
use Rattle.reset_form.specs.reset_functions.Pairs.{AreCyclesOf, IsAmong}
use Rattle.reset_form.proofs.reset_functions.functions.unfold_all.Given as goal

abbrev pub invariant-loop-top : goal.invariant-loop-top
invariant-loop-top l = record {
  fits : FitsReset l.unfolder l.aig l.places;
  later : IsLaterReset l.initial.unfolder l.unfolder l.initial.aig l.aig l.initial.places l.places;
  done : (p : ℕ × ℕ) → Contains l.unfolder.done p ↔ IsAmong (take l.top-index l.tops) p;
  unfolded : AllZip (AreCyclesOf l.initial.unfolder.net l.initial.unfolder.order l.initial.unfolder.base l.aig l.places) (take l.top-index l.tops) l.all.items;
}
