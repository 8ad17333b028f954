use Rattle.std.proofs.Common.{take}
use Rattle.edbf_unfold.specs.event_literals.Known.{HasGrown}
use Rattle.edbf_unfold.specs.Care.{IsAndOfThese}
use Rattle.edbf_unfold.proofs.unfolder.care.and_all.Given as goal

abbrev pub invariant-loop-i : goal.invariant-loop-i
invariant-loop-i l = record {
  grown : HasGrown l.initial.events l.events l.i;
  all : IsAndOfThese l.events.graph (take l.i l.lits) l.care.0;
}
