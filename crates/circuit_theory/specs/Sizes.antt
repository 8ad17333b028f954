-- The sizes of unfoldings: weights, as sums over the distinct places that are visited.
use Rattle.std.specs.Prelude.{◌≡◌, ◌≢◌, ℕ, suc, ◌+◌, ◌*◌, ◌<◌, max, ◌↔◌, List, length}
use Rattle.std.specs.List.{Contains, AllPairs, sum_by}
use Rattle.circuit_theory.specs.Cover.{Cover}
use Rattle.circuit_theory.specs.Circuit.{Circuit, Gate, IsInput, IsLatch, Reads, Reaches}

-- the unfolding of p, k cycles ago, visits q, j cycles ago
pub data Visits {P : Type 0} (c : Circuit P) (p : P) (k : ℕ) : P → ℕ → Type 0 where
  itself : Visits c p k p k
  reads : {q r : P} {j : ℕ} → Visits c p k q j → Reads c q r → Visits c p k r j
  back : {q next : P} {j : ℕ} {name : List ℕ} → Visits c p k q j → IsLatch c name q next → Visits c p k next (suc j)

-- an input or latch counts 1, a gate 1 + rows * (fan-ins + 1), where a cover without rows has one
pub data WeighsAt {P : Type 0} (c : Circuit P) : P → ℕ → Type 0 where
  input : {p : P} → IsInput c p → WeighsAt c p 1
  latch : {p next : P} {name : List ℕ} → IsLatch c name p next → WeighsAt c p 1
  gate : {p : P} {fanins : List P} {cover : Cover} → Contains c.equations (Gate p fanins cover) → WeighsAt c p (1 + max 1 (length cover.rows) * (length fanins + 1))

-- a place with a shift, and what it counts
pub record Weighed (P : Type 0) : Type 0 where
  pub place : P
  pub shift : ℕ
  pub weight : ℕ

-- the weight is the sum over the distinct places that the unfoldings of these outputs visit
pub record IsWeight {P : Type 0} (c : Circuit P) (outputs : List P) (weight : ℕ) : Type 0 where
  pub places : List (Weighed P)
  pub distinct : AllPairs (λ x y. (x.place ≡ y.place) → (x.shift ≡ y.shift) → ⊥) places
  pub weighed : (x : Weighed P) → Contains places x → WeighsAt c x.place x.weight
  pub met : (q : P) (j : ℕ) → ((w : ℕ) × Contains places (record { place = q; shift = j; weight = w })) ↔ ((p : P) × Contains outputs p × Visits c p 0 q j)
  pub total : sum_by (λ x. x.weight) places ≡ weight

-- some distinct places that the unfoldings of these outputs visit weigh more than the cap
pub record IsOver {P : Type 0} (c : Circuit P) (outputs : List P) (cap : ℕ) : Type 0 where
  pub places : List (Weighed P)
  pub distinct : AllPairs (λ x y. (x.place ≡ y.place) → (x.shift ≡ y.shift) → ⊥) places
  pub weighed : (x : Weighed P) → Contains places x → WeighsAt c x.place x.weight
  pub met : (x : Weighed P) → Contains places x → (p : P) × Contains outputs p × Visits c p 0 x.place x.shift
  pub total : cap < sum_by (λ x. x.weight) places

-- the weight of one latch's cone: what it takes over, through gates and ports alone
pub record IsConeWeight {P : Type 0} (c : Circuit P) (next : P) (weight : ℕ) : Type 0 where
  pub places : List (Weighed P)
  pub distinct : AllPairs (λ x y. x.place ≢ y.place) places
  pub weighed : (x : Weighed P) → Contains places x → (x.shift ≡ 0) × WeighsAt c x.place x.weight
  pub met : (q : P) → ((w : ℕ) × Contains places (record { place = q; shift = 0; weight = w })) ↔ Reaches c next q
  pub total : sum_by (λ x. x.weight) places ≡ weight

-- some distinct places of the latch's cone weigh more than the cap
pub record IsConeOver {P : Type 0} (c : Circuit P) (next : P) (cap : ℕ) : Type 0 where
  pub places : List (Weighed P)
  pub distinct : AllPairs (λ x y. x.place ≢ y.place) places
  pub weighed : (x : Weighed P) → Contains places x → (x.shift ≡ 0) × WeighsAt c x.place x.weight
  pub met : (x : Weighed P) → Contains places x → Reaches c next x.place
  pub total : cap < sum_by (λ x. x.weight) places
