use Rattle.std.proofs.Common.{take}
use Rattle.std.specs.List.{AllZip}
use Rattle.reset_form.specs.reset_unfold.Unfolded.{FitsReset}
use Rattle.reset_form.specs.reset_unfold.Building.{IsLaterReset}
use Rattle.cycle_search.specs.Outputs.{IsLiteralIn, HasDoneIn}
use Rattle.cycle_search.proofs.outputs.unfold_signals.Given as goal

abbrev pub invariant-loop-pair : goal.invariant-loop-pair
invariant-loop-pair l = record {
  fits : FitsReset l.unfolder l.aig l.places;
  later : IsLaterReset l.initial.unfolder l.unfolder l.initial.aig l.aig l.initial.places l.places;
  done : HasDoneIn l.fn.side (take l.pair-index l.pairs) l.fn.cycle l.initial.unfolder.done l.unfolder.done;
  literals : AllZip (IsLiteralIn l.unfolder.memo l.fn.side l.fn.cycle) (take l.pair-index l.pairs) l.all.items;
}
