-- How an unfolder goes on from place to place.
use Rattle.std.specs.Prelude.{◌≡◌, ℕ, ◌+◌, ◌-◌, ◌^◌, ◌<◌, ◌≤◌, List, length, slice_get, Some, Contains}
use Rattle.std.specs.List.{AllPairs, AllZip}
use Rattle.flat_net.specs.View.{circuit_of}
use Rattle.aig.specs.declared.node.Lit.{Lit}
use Rattle.aig.specs.declared.node.Node.{Node}
use Rattle.aig.specs.Graph.{Grows}
use Rattle.cbf_unfold.specs.unfold_places.Places.{Steps, PlaceBefore, IsVisited}
use Rattle.aig.specs.Adds.{Adds}
use Rattle.cbf_unfold.specs.unfold_places.Reach.{AreInputsAt}
pub use Rattle.cbf_unfold.specs.unfold_places.Reach.{IsMet}
pub use Rattle.cbf_unfold.specs.unfold_places.Growing.{HasGrown}
use Rattle.cbf_unfold.specs.View.{UnfolderView}
use Rattle.cbf_unfold.specs.Unfolded.{IsKnown}

-- each literal that the unfolder keeps is that of its place's tree
abbrev pub AreKnown : UnfolderView → List Node → List (ℕ × ℕ) → Type 0
AreKnown u g places = (p : ℕ × ℕ) (x : Lit) → Contains u.memo (p, x) → IsKnown u.net u.order u.cap g places p x.0

-- The place can be unfolded: a signal that is unfolded visits it, and what it reads has been met.
pub record IsReady (u : UnfolderView) (p : ℕ × ℕ) : Type 0 where
  pub visited : IsVisited (circuit_of u.net) u.cap u.done p
  pub within : p.1 < length u.net.drivers
  pub early : 0 < p.0
  pub read : (q : ℕ × ℕ) → Steps (circuit_of u.net) p q → IsMet u.memo q

-- the graph and the table have room for all that may still be met
pub record HasRoom (u : UnfolderView) (g : List Node) (places : List (ℕ × ℕ)) : Type 0 where
  pub nodes : length g + u.cap < 2 ^ 30 + u.weight
  pub entries : length places + u.cap < 2 ^ 31 + u.weight
  pub small : u.weight ≤ u.cap

-- The same unfolder later: it has met more, and the graph and the table have grown no more than the weight has. The weight
-- is within the limit.
pub record IsLater (u v : UnfolderView) (g h : List Node) (places more : List (ℕ × ℕ)) : Type 0 where
  pub net : v.net ≡ u.net
  pub order : v.order ≡ u.order
  pub cap : v.cap ≡ u.cap
  pub memo : Adds (λ e. Unit {0}) u.memo v.memo
  pub grows : Grows g h
  pub adds : Adds (λ p. Unit {0}) places more
  pub nodes : length h + u.weight ≤ length g + v.weight
  pub entries : length more + u.weight ≤ length places + v.weight
  pub small : v.weight ≤ v.cap

-- the variables are the numbers in the table of the inputs that the unfolding of s visits, by cycle and then by number
pub record AreNumbered (u : UnfolderView) (places : List (ℕ × ℕ)) (s : ℕ) (vars : List ℕ) : Type 0 where
  pub found : List (ℕ × ℕ)
  pub inputs : AreInputsAt (circuit_of u.net) u.order s u.cap found
  pub ordered : AllPairs PlaceBefore found
  pub numbers : AllZip (λ v x. slice_get places v ≡ Some (x.1, u.cap - x.0)) vars found
