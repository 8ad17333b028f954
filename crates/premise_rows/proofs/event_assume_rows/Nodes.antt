-- Where no latch reads another one, variables stand at the root or at one of its children, and a light assumption isn't too large for a pair.
use Rattle.std.proofs.Common.{◌≡◌, ℕ, suc, ◌+◌, ◌*◌, ◌<◌, ◌≤◌, List, [], ◌∷◌, length, None, arith, inl, inr}
use Rattle.std.specs.Prelude.{◌≢◌}
use Rattle.std.specs.List.{AllPairs, AllZip, Contains, sum_by}
use Rattle.std.proofs.Math.Nat.{mul-le-mul_left}
use Rattle.circuit_theory.specs.Circuit.{Circuit, Reaches}
use Rattle.circuit_theory.specs.Depth.{LatchesHaveDepths}
use Rattle.circuit_theory.specs.Joined.{Either, Left, Right}
use Rattle.circuit_theory.specs.Query.{Variable, HasLeaf}
use Rattle.circuit_theory.specs.Run.{IsEnabled}
use Rattle.circuit_theory.specs.Tree.{Tree}
use Rattle.circuit_theory.proofs.Lists.{Contains-head}
use Rattle.circuit_theory.specs.EventFrames.{IsCareTree, IsPairTree}
use Rattle.circuit_theory.specs.EventSizes.{Start, EventVisits}
use Rattle.circuit_theory.specs.Frame.{ConeLatches, EventSide, EventUnfolds}
use Rattle.event_nodes.proofs.event_variables.Leaves.{leaf_visited}
use Rattle.sec_setup.specs.declared.ports.pairs.SignalPair.{SignalPair}
use Rattle.assume_laws.specs.Assume.{HasVariableAtNode}
use Rattle.event_under.specs.Places.{ArePairNodes, IsOverAtNodes}
use Rattle.circuit_laws.proofs.Counting.{fewer}
use Rattle.circuit_laws.proofs.Shallow.{IsShallow, at_node, no_others, nodes_length, nodes_of, stands}

module _ {P : Type 0} (c : Circuit P) (latches : List P) (shallow : IsShallow c latches) (depths : LatchesHaveDepths c (IsEnabled c)) (order : List ℕ) (class : P → ℕ) where
  abbrev side : EventSide P
  side = record { circuit = c; order = order; class = class }

  abbrev from : P → List (Start P)
  from p = record { place = p; left_out = None } ∷ []

  -- what a place reaches is visited at the root
  along : (p : P) {q r : P} → EventVisits side (IsEnabled c) (from p) None q [] → Reaches c q r → EventVisits side (IsEnabled c) (from p) None r []
  along p visit Reaches.here = visit
  along p visit (Reaches.there s rest) = along p (EventVisits.reads visit s) rest

  root : (p : P) → EventVisits side (IsEnabled c) (from p) None p []
  root p = EventVisits.start {s = record { place = p; left_out = None }} (Contains-head (record { place = p; left_out = None }) [])

  -- the leaves of a place's function
  own_leaf : (p : P) (tree : Tree (List ℕ)) → EventUnfolds side (IsEnabled c) None p [] tree → (y : Variable (List ℕ)) → HasLeaf y tree → Contains (nodes_of class latches) y.at
  own_leaf p tree unfolds y h =
      let l = leaf_visited side (IsEnabled c) (from p) unfolds (root p) y h in
      at_node c latches shallow depths order class (stands c latches shallow depths order class (from p) l.visit)

  -- those of its care
  care_leaf : (p : P) (tree : Tree (List ℕ)) → IsCareTree side (ConeLatches c p) tree → (y : Variable (List ℕ)) → HasLeaf y tree → Contains (nodes_of class latches) y.at
  care_leaf p tree (IsCareTree.enable {node = []} {name = name} {v = v} {next = next} reached latch on unfolds) y h =
      let visit = EventVisits.held (along p (root p) reached.3) tt latch on in
      let l = leaf_visited side (IsEnabled c) (from p) unfolds visit y h in
      at_node c latches shallow depths order class (stands c latches shallow depths order class (from p) l.visit)
  care_leaf p tree (IsCareTree.enable {node = k ∷ node} {v = v} reached latch on unfolds) y h = absurd (no_others c latches shallow depths reached.0 v reached.3)

  -- so stands each variable of a pair
  pub read_node : (p q : P) (node : List ℕ) → HasVariableAtNode side p q node → Contains (nodes_of class latches) node
  read_node p q node (tree, i, is, stands_there) = by is
    where
      by : IsPairTree side p q tree → Contains (nodes_of class latches) node
      by (inl (inl own)) = own_leaf p tree own (record { input = i; at = node }) stands_there
      by (inl (inr own)) = own_leaf q tree own (record { input = i; at = node }) stands_there
      by (inr (inl care)) = care_leaf p tree care (record { input = i; at = node }) stands_there
      by (inr (inr care)) = care_leaf q tree care (record { input = i; at = node }) stands_there

  -- distinct nodes that are read are no more than the latches and the root
  few : (nodes : List (List ℕ)) → AllPairs (λ m n. m ≢ n) nodes → ((node : List ℕ) → Contains nodes node → Contains (nodes_of class latches) node) → length latches ≤ 200 → length nodes ≤ 201
  few nodes distinct among low =
      let h : length nodes ≤ length (nodes_of class latches) = fewer nodes (nodes_of class latches) distinct among in
      let long : length (nodes_of class latches) ≡ suc (length latches) = nodes_length class latches in
      omega (arith, h, long, low)

module _ (c : Circuit (Either ℕ ℕ)) (latches : List (Either ℕ ℕ)) (shallow : IsShallow c latches) (depths : LatchesHaveDepths c (IsEnabled c)) (low : length latches ≤ 200) (order : List ℕ) (class : Either ℕ ℕ → ℕ) where
  abbrev s : EventSide (Either ℕ ℕ)
  s = record { circuit = c; order = order; class = class }

  own_few : (pairs : List SignalPair) (own : List (List (List ℕ))) → length pairs ≤ 1 → AllZip (ArePairNodes s) pairs own → sum_by length own ≤ 201
  own_few [] [] one zip = omega arith
  own_few [] (ns ∷ own) one zip = absurd zip
  own_few (p ∷ pairs) [] one zip = absurd zip
  own_few (p ∷ []) (ns ∷ []) one zip =
      let h : length ns ≤ 201 = few c latches shallow depths order class ns zip.0.distinct (λ node k. read_node c latches shallow depths order class (Left p.left.0) (Right p.right.0) node ((zip.0.exactly node).0 k)) low in
      let sum : 0 + length ns ≤ 201 = omega (arith, h) in
      sum
  own_few (p ∷ []) (ns ∷ ms ∷ own) one zip = absurd zip.1
  own_few (p ∷ r ∷ pairs) (ns ∷ own) one zip = absurd (omega (arith, one))

  pub not_over : (weight : ℕ) (pairs : List SignalPair) → weight < 10 → length pairs ≤ 1 → IsOverAtNodes weight s pairs → ⊥
  not_over weight pairs light one o =
      let all : length o.all ≤ 201 = few c latches shallow depths order class o.all o.nodes.distinct (λ node k. (let x = (o.nodes.exactly node).0 k in read_node c latches shallow depths order class (Left x.0.left.0) (Right x.0.right.0) node x.2)) low in
      let own : sum_by length o.own ≤ 201 = own_few pairs o.own one o.nodes.each in
      let once : weight * length o.all ≤ weight * 201 = mul-le-mul_left weight all in
      let over : 2000000 < weight * length o.all + sum_by length o.own = o.over in
      omega (arith, once, own, over, light)
