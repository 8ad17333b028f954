-- The leaves of a signal's unfoldings, cycle by cycle.
use Rattle.std.specs.Prelude.{◌≡◌, ◌≢◌, ◌⊎◌, ◌↔◌, ℕ, ◌+◌, ◌<◌, ◌≤◌, List, [], length, Some, slice_get, Contains}
use Rattle.std.specs.List.{AllPairs}
use Rattle.flat_net.specs.View.{NetView, circuit_of}
use Rattle.cbf_unfold.specs.unfold_places.Places.{PlaceBefore}
use Rattle.reset_form.specs.reset_unfold.Reach.{AreVisited, AreLeavesAt}

-- what a contract sees of a cone
pub record ConeView : Type 0 where
  -- the signal, and the last cycle in which it may be unfolded
  pub signal : ℕ
  pub last : ℕ
  -- the cycle in which it is unfolded next
  pub next : ℕ
  -- the places that the unfolding in the last cycle visits
  pub visited : List (ℕ × ℕ)
  -- how many of them, moved back from the last cycle to the next one, lie in cycle 0 or before
  pub front : ℕ
  -- the leaves in the cycle before the next
  pub found : List (ℕ × ℕ)

-- The places are all that are visited, in order; those in front lie early enough, and no other does. Before the first cycle
-- there are no leaves.
pub record IsCone (n : NetView) (order : List ℕ) (base : ℕ) (k : ConeView) : Type 0 where
  pub within : k.signal < length n.drivers
  pub visited : AreVisited (circuit_of n) (length n.drivers) (k.last, k.signal) k.visited
  pub ordered : AllPairs PlaceBefore k.visited
  pub front_in : k.front ≤ length k.visited
  pub early : (i : ℕ) (p : ℕ × ℕ) → i < k.front → slice_get k.visited i ≡ Some p → p.0 + k.next ≤ k.last
  pub late : (i : ℕ) (p : ℕ × ℕ) → k.front ≤ i → slice_get k.visited i ≡ Some p → k.last < p.0 + k.next
  pub first : k.next ≡ 0 → k.found ≡ []
  pub leaves : (t : ℕ) → k.next ≡ t + 1 → AreLeavesAt (circuit_of n) order base (t, k.signal) k.found
  pub leaves_ordered : AllPairs PlaceBefore k.found

-- the places of a cycle begin here that end at a place
pub record IsStart (visited : List (ℕ × ℕ)) (end cycle from : ℕ) : Type 0 where
  pub before : from ≤ end
  pub same : (i : ℕ) (p : ℕ × ℕ) → from ≤ i → i < end → slice_get visited i ≡ Some p → p.0 ≡ cycle
  pub other : (i : ℕ) (p : ℕ × ℕ) → i + 1 ≡ from → slice_get visited i ≡ Some p → p.0 ≢ cycle

-- these places, moved to cycle 0
pub record IsBlock (visited : List (ℕ × ℕ)) (end cycle : ℕ) (block : List (ℕ × ℕ)) : Type 0 where
  pub from : ℕ
  pub start : IsStart visited end cycle from
  pub size : from + length block ≡ end
  pub each : (i : ℕ) (q : ℕ × ℕ) → slice_get block i ≡ Some q → (p : ℕ × ℕ) × (slice_get visited (from + i) ≡ Some p) × (q ≡ (0, p.1))

-- the leaf of an input, one cycle later
abbrev pub IsLaterLeaf : List (ℕ × ℕ) → ℕ → ℕ × ℕ → Type 0
IsLaterLeaf before base x = (y : ℕ × ℕ) × Contains before y × (y.1 < base) × (x ≡ (y.0 + 1, y.1))

-- these leaves are added
abbrev pub HasLater : List (ℕ × ℕ) → ℕ → List (ℕ × ℕ) → List (ℕ × ℕ) → Type 0
HasLater before base old new = (x : ℕ × ℕ) → Contains new x ↔ (Contains old x ⊎ IsLaterLeaf before base x)
