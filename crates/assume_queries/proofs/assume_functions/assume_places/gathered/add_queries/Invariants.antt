use Rattle.std.proofs.Common.{List, ◌++◌, take}
use Rattle.obligations.specs.pair_decide.Query.{Query}
use Rattle.assume_queries.specs.assume_functions.assume_places.Gathered.{AreGathered}
use Rattle.assume_queries.proofs.assume_functions.assume_places.gathered.add_queries.Given as goal

abbrev pub invariant-loop-query : goal.invariant-loop-query
invariant-loop-query l = (qs : List Query) → AreGathered l.table qs l.fn.found → AreGathered l.table (qs ++ take l.query-index l.queries) l.found
