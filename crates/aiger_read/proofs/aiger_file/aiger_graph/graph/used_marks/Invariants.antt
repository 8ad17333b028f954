use Rattle.std.proofs.Common.{◌+◌, ◌*◌, take}
use Rattle.aiger_read.specs.aiger_file.aiger_graph.Literals.{AreUsed}
use Rattle.aiger_read.proofs.aiger_file.aiger_graph.graph.used_marks.Given as goal

abbrev pub invariant-loop-found : goal.invariant-loop-found
invariant-loop-found l = AreUsed (take l.found-index l.records) (2 * l.header.greatest + 2) l.marks.items
