use Rattle.std.proofs.Common.{◌+◌, ◌≤◌, ℕ, List, drop, length, take}
use Rattle.std.specs.List.{AllZip, sum_by}
use Rattle.aig.specs.Graph.{Grows, IsGraph}
use Rattle.assume_queries.specs.Parted.{AreOwnFrom, IsQueryMade}
use Rattle.assume_queries.proofs.map.obligation_under.Given as goal

abbrev pub invariant-loop-j : goal.invariant-loop-j
invariant-loop-j l = record {
  made : (found : List (ℕ × ℕ)) → AreOwnFrom l.table found l.parts l.place l.obligation.queries → AllZip (IsQueryMade l.order l.table l.fn.aig found l.parts l.aig) (take l.j l.obligation.queries) l.queries;
  graph : IsGraph l.aig;
  grows : Grows l.fn.aig l.aig;
  few : length l.aig + sum_by length (drop (l.place + l.j) l.parts.own.items) ≤ length l.fn.aig + sum_by length (drop l.place l.parts.own.items);
}
