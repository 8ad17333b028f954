-- The latches that are removed, by their bits and by their positions.
use Rattle.std.proofs.Common.{◌≡◌, ℕ, ◌<◌, Bool, true, List, length, Option, Some, None, ◌∙◌, ap, subst, arith}
use Rattle.std.specs.Prelude.{IfSome, IfNone, All}
use Rattle.std.specs.List.{Contains}
use Rattle.std.proofs.lemmas.Option.{slice_get_within, slice_get-get_or, get_or_from_slice_get}
use Rattle.circuit_theory.specs.Circuit.{Circuit}
use Rattle.circuit_theory.specs.Depth.{LatchReads, LatchPath, HasCycle, IsCycle, BeginsWithLeast}
use Rattle.circuit_theory.proofs.Lists.{Contains-map, Contains-map_from, at_of}
use Rattle.latch_graph.specs.flat_net.LatchAt.{LatchAt}
use Rattle.latch_graph.specs.flat_net.View.{NetView, circuit_of}
use Rattle.latch_graph.specs.flat_net.Cut.{no_latch}
use Rattle.latch_graph.specs.Graph.{GraphView, IsGraphOf, SkippedBy, marked_names, signals_at}
use Rattle.latch_graph.specs.Rounds.{latch_in}
use Rattle.latch_graph.proofs.Turns.{marked_has, marked_from}
use Rattle.latch_graph.specs.minimal_cut.Chosen.{names_at, IsFree}
use Rattle.sec_setup.specs.cut_points.expose_pick.Pairs.{IsLeft}
use Rattle.sec_setup.specs.cut_points.expose_pick.Bits.{AreBits}

-- where fewer names are removed, what is read stays read
module _ {P : Type 0} (c : Circuit P) (enabled : P → Type 0) (removed fewer : List (List ℕ)) (within : (name : List ℕ) → Contains fewer name → Contains removed name) where
  pub reads_fewer : {u v : P} → LatchReads c enabled removed u v → LatchReads c enabled fewer u v
  reads_fewer e = record {
    name = e.name;
    next = e.next;
    latch = e.latch;
    kept = λ h. e.kept (within e.name h);
    other_name = e.other_name;
    other_next = e.other_next;
    other = e.other;
    other_kept = λ h. e.other_kept (within e.other_name h);
    cone = e.cone;
    no_self_edge = e.no_self_edge;
  }

  pub path_fewer : {u v : P} → LatchPath c enabled removed u v → LatchPath c enabled fewer u v
  path_fewer (LatchPath.edge e) = LatchPath.edge (reads_fewer e)
  path_fewer (LatchPath.step e rest) = LatchPath.step (reads_fewer e) (path_fewer rest)

  pub cycle_fewer : HasCycle c enabled removed → HasCycle c enabled fewer
  cycle_fewer cycle = (cycle.0, path_fewer cycle.1)

  pub round_fewer : (latches : List P) → IsCycle c enabled removed latches → IsCycle c enabled fewer latches
  round_fewer latches round = record { some = round.some; distinct = round.distinct; edges = λ i u v h k. reads_fewer (round.edges i u v h k) }

module _ (latches : List LatchAt) (bits : List Bool) (positions : List ℕ) (are : AreBits bits positions (length positions)) (size : length bits ≡ length latches) where
  marked_named : (name : List ℕ) → Contains (marked_names latches bits) name → Contains (names_at latches positions) name
  marked_named name h =
      let m = marked_from latches bits name h in
      let same : (latch_in latches m.0).name ≡ name = ap (λ (z : LatchAt). z.name) (get_or_from_slice_get latches m.0 m.1 no_latch m.2) ∙ m.4 in
      subst (λ z. Contains (names_at latches positions) z) same (Contains-map (λ j. (latch_in latches j).name) positions m.0 (are.from m.0 m.3))

  named_marked : (name : List ℕ) → Contains (names_at latches positions) name → Contains (marked_names latches bits) name
  named_marked name h =
      let x = Contains-map_from (λ j. (latch_in latches j).name) positions name h in
      let place = at_of positions x.0 x.1 in
      let set = are.set place.0 x.0 (slice_get_within positions place.0 x.0 place.1) place.1 in
      let inside : x.0 < length latches = (let l = slice_get_within bits x.0 true set in omega (arith, l, size)) in
      subst (λ z. Contains (marked_names latches bits) z) x.2 (marked_has latches bits x.0 (latch_in latches x.0) (slice_get-get_or latches x.0 no_latch inside) set)

-- what the search for a cycle says of the positions
module _ (g : GraphView) (bits : List Bool) (positions : List ℕ) (are : AreBits bits positions (length positions)) (size : length bits ≡ length g.latches) where
  pub none_left : (found : Option (List ℕ)) → IfNone found ((n : NetView) → IsGraphOf n g → HasCycle (circuit_of n) (SkippedBy g) (marked_names g.latches bits) → ⊥) → IfNone found (IsFree g positions)
  none_left None none = λ n of cycle. none n of (cycle_fewer (circuit_of n) (SkippedBy g) (names_at g.latches positions) (marked_names g.latches bits) (marked_named g.latches bits positions are size) cycle)
  none_left (Some ids) none = none

  pub some_left : (found : Option (List ℕ)) → IfSome found (All (λ j. j < length g.latches)) → IfSome found (λ ids. (n : NetView) → IsGraphOf n g → IsCycle (circuit_of n) (SkippedBy g) (marked_names g.latches bits) (signals_at g.latches ids)) →
      IfSome found (λ ids. (n : NetView) → IsGraphOf n g → BeginsWithLeast (circuit_of n) (signals_at g.latches ids)) → IfSome found (IsLeft g positions)
  some_left None within cycle least = within
  some_left (Some ids) within cycle least = record {
    within = within;
    round = λ n of. round_fewer (circuit_of n) (SkippedBy g) (marked_names g.latches bits) (names_at g.latches positions) (named_marked g.latches bits positions are size) (signals_at g.latches ids) (cycle n of);
    least = least;
  }
