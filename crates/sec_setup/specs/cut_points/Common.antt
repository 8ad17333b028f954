-- The latches that two circuits have under one name.
use Rattle.std.specs.Prelude.{◌≡◌, ℕ, ◌<◌, List, length, map, take, slice_index_or}
use Rattle.std.specs.List.{All, AllPairs, filter}
use Rattle.circuit_theory.specs.Circuit.{Circuit}
use Rattle.circuit_theory.specs.Names.{is_among}
use Rattle.circuit_theory.specs.Flattened.{latch_names}
use Rattle.latch_graph.specs.flat_net.LatchAt.{LatchAt}
use Rattle.latch_graph.specs.flat_net.View.{NetView, circuit_of}
use Rattle.latch_graph.specs.flat_net.Cut.{no_latch, exposed_names}
use Rattle.sec_setup.specs.declared.cut_points.expose_pick.pairs.LatchPair.{LatchPair}
use Rattle.sec_setup.specs.cut_points.expose_pick.Pairs.{lefts}

-- the names of A's latches that are also names of latches of B, in A's order
abbrev pub common_names : {P Q : Type 0} → Circuit P → Circuit Q → List (List ℕ)
common_names a b = filter (is_among (latch_names b.equations)) (latch_names a.equations)

-- the two latches of the pair are there and have one name
pub record HaveOneName (a b : List LatchAt) (p : LatchPair) : Type 0 where
  pub left : p.left < length a
  pub right : p.right < length b
  pub name : (slice_index_or a p.left no_latch).name ≡ (slice_index_or b p.right no_latch).name

-- the pairs are those of the first so many latches of A that B has too, in A's order
pub record AreCommonUpTo (a b : NetView) (count : ℕ) (pairs : List LatchPair) : Type 0 where
  pub each : All (HaveOneName a.latches b.latches) pairs
  pub below : All (λ p. p.left < count) pairs
  pub in_order : AllPairs (λ p q. p.left < q.left) pairs
  pub names : exposed_names a (lefts pairs) ≡ filter (is_among (latch_names (circuit_of b).equations)) (map (λ l. l.name) (take count a.latches))

-- the pairs are those of all latches of A that B has too, in A's order
pub record AreCommon (a b : NetView) (pairs : List LatchPair) : Type 0 where
  pub each : All (HaveOneName a.latches b.latches) pairs
  pub in_order : AllPairs (λ p q. p.left < q.left) pairs
  pub names : exposed_names a (lefts pairs) ≡ common_names (circuit_of a) (circuit_of b)
