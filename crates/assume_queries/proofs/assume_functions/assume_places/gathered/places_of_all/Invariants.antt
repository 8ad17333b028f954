use Rattle.std.proofs.Common.{take}
use Rattle.obligations.specs.Asked.{queries_of}
use Rattle.assume_queries.specs.assume_functions.assume_places.Gathered.{AreGathered}
use Rattle.assume_queries.proofs.assume_functions.assume_places.gathered.places_of_all.Given as goal

abbrev pub invariant-loop-i : goal.invariant-loop-i
invariant-loop-i l = AreGathered l.table (queries_of (take l.i l.asked)) l.found
