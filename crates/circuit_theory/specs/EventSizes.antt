-- The sizes of event unfoldings: what they visit, their weight, and how many event nodes are reached.
use Rattle.std.specs.Prelude.{◌≡◌, ◌≢◌, ℕ, ◌<◌, ◌↔◌, List, [], ◌∷◌, length, Option, Some, None}
use Rattle.std.specs.List.{Contains, AllPairs, sum_by}
use Rattle.circuit_theory.specs.Circuit.{IsLatch, Reads}
use Rattle.circuit_theory.specs.Sizes.{WeighsAt}
use Rattle.circuit_theory.specs.Frame.{EventSide, IsNode}

-- where the unfolding of an event function begins: a signal, or what an enabled latch takes over, the latch left out
pub record Start (P : Type 0) : Type 0 where
  pub place : P
  pub left_out : Option P

-- the place isn't the latch that is left out
abbrev pub IsOther : {P : Type 0} → Option P → P → Type 0
IsOther None p = Unit {0}
IsOther (Some u) p = p ≢ u

-- the unfolding visits the place at the node, under the latch that is read as a constant there
pub data EventVisits {P : Type 0} (side : EventSide P) (enabled : P → Type 0) (starts : List (Start P)) : Option P → P → List ℕ → Type 0 where
  start : {s : Start P} → Contains starts s → EventVisits side enabled starts s.left_out s.place []
  reads : {out : Option P} {q r : P} {node : List ℕ} → EventVisits side enabled starts out q node → Reads side.circuit q r → EventVisits side enabled starts out r node
  plain : {out : Option P} {q next : P} {node : List ℕ} {name : List ℕ} → EventVisits side enabled starts out q node → IsOther out q → IsLatch side.circuit name q next → (enabled q → ⊥) →
      EventVisits side enabled starts None next (side.class q ∷ node)
  held : {out : Option P} {q next : P} {node : List ℕ} {name : List ℕ} → EventVisits side enabled starts out q node → IsOther out q → IsLatch side.circuit name q next → enabled q →
      EventVisits side enabled starts (Some q) next (side.class q ∷ node)

-- a place at an event node, and what it counts
pub record WeighedAtNode (P : Type 0) : Type 0 where
  pub place : P
  pub node : List ℕ
  pub weight : ℕ

-- the event weight of one side: the sum over the distinct places and nodes that its event unfoldings visit
pub record IsEventWeight {P : Type 0} (side : EventSide P) (enabled : P → Type 0) (starts : List (Start P)) (weight : ℕ) : Type 0 where
  pub places : List (WeighedAtNode P)
  pub distinct : AllPairs (λ x y. (x.place ≡ y.place) → (x.node ≡ y.node) → ⊥) places
  pub weighed : (x : WeighedAtNode P) → Contains places x → WeighsAt side.circuit x.place x.weight
  pub met : (q : P) (node : List ℕ) → ((w : ℕ) × Contains places (record { place = q; node = node; weight = w })) ↔ ((out : Option P) × EventVisits side enabled starts out q node)
  pub total : sum_by (λ x. x.weight) places ≡ weight

-- some distinct places and nodes that its event unfoldings visit weigh more than the cap
pub record IsEventOver {P : Type 0} (side : EventSide P) (enabled : P → Type 0) (starts : List (Start P)) (cap : ℕ) : Type 0 where
  pub places : List (WeighedAtNode P)
  pub distinct : AllPairs (λ x y. (x.place ≡ y.place) → (x.node ≡ y.node) → ⊥) places
  pub weighed : (x : WeighedAtNode P) → Contains places x → WeighsAt side.circuit x.place x.weight
  pub met : (x : WeighedAtNode P) → Contains places x → (out : Option P) × EventVisits side enabled starts out x.place x.node
  pub total : cap < sum_by (λ x. x.weight) places

-- the number of distinct event nodes that are reached from these latches, the root among them
pub record IsNodeCount {P : Type 0} (side : EventSide P) (enabled start : P → Type 0) (count : ℕ) : Type 0 where
  pub nodes : List (List ℕ)
  pub distinct : AllPairs (λ m n. m ≢ n) nodes
  pub exactly : (node : List ℕ) → Contains nodes node ↔ IsNode side enabled start node
  pub number : length nodes ≡ count
