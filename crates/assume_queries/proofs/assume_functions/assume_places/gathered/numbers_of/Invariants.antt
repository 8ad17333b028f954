use Rattle.std.proofs.Common.{◌≡◌, ◌+◌, ◌<◌, ◌≤◌, map, length, take, All}
use Rattle.cbf_unfold.specs.unfold_places.Reach.{Adds}
use Rattle.assume_queries.specs.assume_functions.assume_places.Gathered.{IsAmong, place_at}
use Rattle.assume_queries.proofs.assume_functions.assume_places.gathered.numbers_of.Given as goal

abbrev pub invariant-loop-place : goal.invariant-loop-place
invariant-loop-place l = record {
  places : map (place_at l.found) l.own.items ≡ take l.place-index l.places;
  within : All (λ n. n < length l.found) l.own.items;
  adds : Adds (IsAmong l.places) l.fn.found l.found;
  few : length l.found ≤ length l.fn.found + l.place-index;
}
