use Rattle.std.proofs.Common.{◌≤◌, length, take}
use Rattle.edbf_unfold.specs.event_literals.Known.{AreKnown, HasGrown}
use Rattle.edbf_unfold.specs.Care.{AreEnablesAt}
use Rattle.edbf_unfold.proofs.unfolder.EventUnfolder.care_of.Given as goal

abbrev pub invariant-loop-number : goal.invariant-loop-number
invariant-loop-number l = record {
  grown : HasGrown l.initial.events l.events l.number;
  known : AreKnown l.self.circuit l.events l.self.frames l.self.memo;
  enables : AreEnablesAt l.self.circuit l.events l.self.frames (take l.number l.table) l.enables.items;
  few : length l.enables.items ≤ l.number;
}
