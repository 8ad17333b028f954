-- Two nets side by side, whose signals have places, A's first.
use Rattle.std.specs.Prelude.{◌≡◌, ◌⊎◌, ℕ, ◌+◌, ◌<◌, List, ◌++◌, length}
use Rattle.circuit_theory.specs.Circuit.{Circuit}
use Rattle.circuit_theory.specs.Joined.{Either, joined}
use Rattle.flat_net.specs.View.{NetView, circuit_of}
use Rattle.signal_refine.specs.declared.nets.SignalNets.{SignalNets}
use Rattle.signal_refine.specs.declared.nets.Spot.{Spot}

-- how many signals A has
abbrev pub size_of : SignalNets → ℕ
size_of n = length n.left.now.drivers

-- how many both have
abbrev pub places_of : SignalNets → ℕ
places_of n = length n.left.now.drivers + length n.right.now.drivers

abbrev pub whole : SignalNets → Circuit (Either ℕ ℕ)
whole n = joined (circuit_of n.left.now) (circuit_of n.right.now)

abbrev pub order_of : SignalNets → List ℕ
order_of n = n.orders.now.left ++ n.orders.now.right

-- the signal at a place of a net whose first signal has this place
pub record IsSpotOf (net : NetView) (numbers : List ℕ) (offset p : ℕ) (s : Spot) : Type 0 where
  pub net_is : s.net.now ≡ net
  pub numbers_are : s.numbers.now ≡ numbers
  pub offset_is : s.offset ≡ offset
  pub place : offset + s.signal.0 ≡ p
  pub inside : s.signal.0 < length net.drivers

-- the signal at a place, one of A's or one of B's
abbrev pub IsSpot : SignalNets → ℕ → Spot → Type 0
IsSpot n p s = IsSpotOf n.left.now n.orders.now.left 0 p s ⊎ IsSpotOf n.right.now n.orders.now.right (length n.left.now.drivers) p s
