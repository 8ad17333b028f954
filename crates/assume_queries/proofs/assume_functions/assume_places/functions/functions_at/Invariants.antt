use Rattle.std.proofs.Common.{ℕ, ◌+◌, ◌*◌, ◌≤◌, List, length, take}
use Rattle.flat_net.specs.View.{NetView}
use Rattle.aig.specs.Graph.{Grows}
use Rattle.cbf_unfold.specs.unfold_places.Reach.{Adds}
use Rattle.assume_queries.specs.assume_functions.Functions.{IsOwnFunction, HasNoLatch}
use Rattle.assume_queries.specs.assume_functions.assume_places.Placed.{ArePut}
use Rattle.assume_queries.proofs.assume_functions.assume_places.functions.functions_at.Given as goal

abbrev pub invariant-loop-n : goal.invariant-loop-n
invariant-loop-n l = record {
  put : (net : NetView) (order : List ℕ) (s : ℕ) → IsOwnFunction net order s l.own → HasNoLatch net → ArePut net order s l.aig l.table (take l.n l.found) l.functions.items;
  grows : Grows l.fn.aig l.aig;
  adds : Adds (λ p. Unit {0}) l.fn.table l.table;
  nodes : length l.aig + l.n ≤ length l.fn.aig + length l.own.aig * l.n;
  entries : length l.table ≤ length l.fn.table + length l.own.places * l.n;
}
