-- Nets that are fed the rows of a stimulus.
use Rattle.std.proofs.Common.{◌≡◌, ◌∙◌, ◌^◌, ◌<◌, ℕ, Bool, List, [], map, length, replicate, slice_get, Option, Some, None, refl, sym, ap, subst, arith}
use Rattle.std.specs.List.{All}
use Rattle.std.proofs.lemmas.List.{append-nil, length-replicate}
use Rattle.std.proofs.lemmas.Option.{none-some, same_Some, slice_get_within}
use Rattle.circuit_theory.proofs.Lists.{length-map, All-from_each, at_of}
use Rattle.flat_net.specs.View.{NetView}
use Rattle.flat_net.proofs.Nets.{some_at}
use Rattle.flat_net.proofs.Places.{All-at}
use Rattle.cycle_sim.specs.View.{HasMarkedRun}
use Rattle.cycle_sim.specs.declared.pair_runs.differences.Difference.{Difference}
use Rattle.cycle_sim.specs.declared.pair_runs.differences.OutputPair.{OutputPair}
use Rattle.cycle_sim.specs.declared.pair_runs.differences.Replayed.{Replayed}
use Rattle.cycle_sim.specs.declared.pair_runs.differences.Settling.{Settling}
use Rattle.cycle_sim.specs.declared.pair_runs.feed.Feed.{Feed}
use Rattle.cycle_sim.specs.pair_runs.Feeding.{IsColumn, IsWithin, reordered}
use Rattle.cycle_sim.specs.pair_runs.Feeds.{Fed, fed, zeros, IsFresh, CanStep, IsReady, PutsCycles, AreFound}
use Rattle.cycle_sim.specs.pair_runs.Listing.{IsFirstIn}
use Rattle.cycle_sim.specs.pair_runs.Showing.{ArePlacesOf, names_of}
use Rattle.cycle_sim.proofs.Lists.{replicate_at}
use Rattle.cycle_sim.proofs.pair_runs.Firsts.{none_first}
use Rattle.cycle_sim.proofs.pair_runs.ShownPairs.{IsFedBy, IsAt}

-- before the first row
pub at_first : (pairs : List OutputPair) (rows more : List (List Bool)) (x y : Feed) (old : List Difference) (firsts : List (Option ℕ)) → IsReady x rows → IsReady y more → firsts ≡ replicate (length pairs) None → IsAt (fed x) (fed y) pairs [] x y old old firsts
at_first pairs rows more x y old firsts ready_x ready_y none = record {
  left_is = record { same = refl; space = ready_x.space; run = ready_x.run };
  right_is = record { same = refl; space = ready_y.space; run = ready_y.run };
  puts = record {
    cycles = [];
    each = refl;
    found_is = sym (append-nil old);
    shown = λ left right from_left from_right t shown at. absurd (none-some shown at);
    size = size;
    firsts_are = λ j first at.
        let w = slice_get_within firsts j first at in
        subst (IsFirstIn [] j) (same_Some None first (sym (replicate_at (length pairs) j None (omega (arith, w, size))) ∙ (ap (λ (fs : List (Option ℕ)). slice_get fs j) (sym none) ∙ at))) (none_first j);
  };
}
  where
    size : length firsts ≡ length pairs
    size = ap length none ∙ length-replicate (length pairs) None

-- the next row can be fed
pub can_step : (first x : Feed) (rows done : List (List Bool)) (i : ℕ) (row : List Bool) → IsReady first rows → IsFedBy (fed first) done x → length done ≡ i → slice_get rows i ≡ Some row → length rows < 2 ^ 32 → CanStep x row
can_step first x rows done i row ready by count at few = record {
  within = subst (All (IsWithin (length row))) (sym columns) (ready.within i row at);
  width = ap length columns ∙ (ready.width ∙ ap (λ (f : Fed). length f.net.inputs) (sym by.same));
  space = by.space;
  room = let c = by.run.goes.cycles in let e = length-map (reordered first.columns.items) done in let w = slice_get_within rows i row at in omega (arith, c, e, w, few, count);
}
  where
    columns : x.columns.items ≡ first.columns.items
    columns = ap (λ (f : Fed). f.columns) by.same

-- the pairs' places are those of the nets that are fed
pub places_stay : (first other x y : Feed) (done more : List (List Bool)) (pairs : List OutputPair) → IsFedBy (fed first) done x → IsFedBy (fed other) more y → ArePlacesOf first.sim.sim.net other.sim.sim.net pairs →
    ArePlacesOf x.sim.sim.net y.sim.sim.net pairs
places_stay first other x y done more pairs by_x by_y places =
    subst (λ (n : NetView). ArePlacesOf n y.sim.sim.net pairs) (sym (ap (λ (f : Fed). f.net) by_x.same)) (subst (λ (n : NetView). ArePlacesOf first.sim.sim.net n pairs) (sym (ap (λ (f : Fed). f.net) by_y.same)) places)

-- a net is ready for rows with one bit for each name of the header
pub ready : (n : NetView) (enabled : List Bool) (header : List (List ℕ)) (rows : List (List Bool)) (f : Feed) → All (λ row. length row ≡ length header) rows → IsFresh n enabled header f → IsReady f rows
ready n enabled header rows f wide fresh = record {
  within = λ t row at. All-from_each (IsWithin (length row)) f.columns.items (λ column h. column_within row (All-at (λ (r : List Bool). length r ≡ length header) rows t row at wide) column (at_of f.columns.items column h));
  width = fresh.columns.each ∙ ap (λ (m : NetView). length m.inputs) (sym fresh.net);
  space = fresh.space;
  run = subst (λ (m : NetView). HasMarkedRun f.sim (zeros m) []) (sym fresh.net) fresh.run;
}
  where
    named : (row : List Bool) → length row ≡ length header → (name : List ℕ) (column : Option ℕ) → IsColumn header name column → IsWithin (length row) column
    named row size name None h = tt
    named row size name (Some k) h = let w = slice_get_within header k name h in omega (arith, w, size)

    column_within : (row : List Bool) → length row ≡ length header → (column : Option ℕ) → (k : ℕ) × (slice_get f.columns.items k ≡ Some column) → IsWithin (length row) column
    column_within row size column at =
        let e = fresh.columns.each in
        let port = some_at n.inputs at.0 (let w = slice_get_within f.columns.items at.0 column at.1 in omega (arith, w, e)) in
        named row size port.0.name column (fresh.columns.named at.0 port.0 column port.1 at.1)

-- the differences of both nets, and since when the pairs are settled
pub are_found : (m k : NetView) (left_bits right_bits : List Bool) (header : List (List ℕ)) (rows : List (List Bool)) (pairs : List OutputPair) (x y : Feed) (found : Replayed) → IsFresh m left_bits header x → IsFresh k right_bits header y →
    PutsCycles (fed x) (fed y) pairs rows [] found.differences (map (λ (s : Settling). s.first) found.settlings) → map (λ (s : Settling). s.pair) found.settlings ≡ names_of pairs → AreFound m left_bits k right_bits pairs header rows found
are_found m k left_bits right_bits header rows pairs x y found fresh_x fresh_y puts named = record {
  left_columns = x.columns.items;
  right_columns = y.columns.items;
  left_are = fresh_x.columns;
  right_are = fresh_y.columns;
  puts = subst (λ f. PutsCycles f (record { net = k; bits = right_bits; columns = y.columns.items }) pairs rows [] found.differences firsts) left_is
      (subst (λ g. PutsCycles (fed x) g pairs rows [] found.differences firsts) right_is puts);
  named = named;
}
  where
    firsts : List (Option ℕ)
    firsts = map (λ (s : Settling). s.first) found.settlings

    left_is : fed x ≡ record { net = m; bits = left_bits; columns = x.columns.items }
    left_is = λ i. record { net = fresh_x.net i; bits = fresh_x.bits i; columns = x.columns.items }

    right_is : fed y ≡ record { net = k; bits = right_bits; columns = y.columns.items }
    right_is = λ i. record { net = fresh_y.net i; bits = fresh_y.bits i; columns = y.columns.items }
