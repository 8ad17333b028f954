use Rattle.std.proofs.Common.{◌≡◌, ◌+◌, ◌≤◌, ℕ, List, drop, length, take}
use Rattle.std.specs.List.{AllZip, sum_by}
use Rattle.aig.specs.Graph.{Grows, IsGraph}
use Rattle.obligations.specs.Asked.{queries_of}
use Rattle.assume_queries.specs.assume_functions.assume_places.Gathered.{AreOwn}
use Rattle.assume_queries.specs.Parted.{IsObligationMade}
use Rattle.assume_queries.proofs.map.obligations_under.Given as goal

abbrev pub invariant-loop-i : goal.invariant-loop-i
invariant-loop-i l = record {
  made : (found : List (ℕ × ℕ)) → AllZip (AreOwn l.table found) (queries_of l.asked) l.parts.own.items → AllZip (IsObligationMade l.order l.table l.fn.aig found l.parts l.aig) (take l.i l.asked) l.made.items;
  graph : IsGraph l.aig;
  place_is : l.place ≡ length (queries_of (take l.i l.asked));
  grows : Grows l.fn.aig l.aig;
  few : length l.aig + sum_by length (drop l.place l.parts.own.items) ≤ length l.fn.aig + sum_by length l.parts.own.items;
}
