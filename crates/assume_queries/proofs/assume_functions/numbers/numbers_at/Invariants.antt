use Rattle.std.proofs.Common.{◌≡◌, ◌+◌, ◌^◌, ◌<◌, ◌≤◌, min, length, All}
use Rattle.cbf_unfold.specs.unfold_places.Reach.{Adds}
use Rattle.assume_queries.specs.assume_functions.Functions.{AreNumbersAt}
use Rattle.assume_queries.proofs.assume_functions.numbers.numbers_at.Given as goal

abbrev pub invariant-loop-v : goal.invariant-loop-v
invariant-loop-v l = record {
  each : length l.numbers.items ≡ l.v;
  numbers : AreNumbersAt l.own.places l.place l.places l.numbers.items;
  small : All (λ v. v + 1 < 2 ^ 32) l.numbers.items;
  adds : Adds (λ p. Unit {0}) l.fn.places l.places;
  entries : length l.places ≤ length l.fn.places + min l.v (length l.own.places);
}
