-- When an answer about the weight is right.
use Rattle.std.specs.Prelude.{◌≡◌, ℕ, ◌+◌, ◌*◌, ◌<◌, ◌≤◌, max, List, length, slice_get, Option, Some, None, [], ◌∷◌, ◌++◌, ◌⊎◌}
use Rattle.std.specs.List.{Contains, sum_by}
use Rattle.signal_graph.specs.inner_cone.circuit_theory.Circuit.{Circuit}
use Rattle.signal_graph.specs.inner_cone.circuit_theory.Sizes.{IsWeight, IsOver, Visits}
use Rattle.signal_graph.specs.inner_cone.flat_net.Table.{AreDistinct}
use Rattle.signal_graph.specs.inner_cone.flat_net.Signal.{Signal}
use Rattle.signal_graph.specs.inner_cone.flat_net.Gate.{Gate}
use Rattle.signal_graph.specs.inner_cone.flat_net.Driver.{Driver}
use Rattle.signal_graph.specs.inner_cone.flat_net.Driver.TheVariants as driver
use Rattle.signal_graph.specs.declared.nodes.Node.{Node}
use Rattle.signal_graph.specs.Graph.{step_of}
use Rattle.signal_graph.specs.inner_cone.flat_net.View.{NetView, circuit_of, cover_of}
use Rattle.signal_graph.specs.declared.unfolding_weight.weight.Weight.{Weight}
use Rattle.signal_graph.specs.declared.unfolding_weight.weight.Weight.TheVariants.{Within, Over}

-- the weight of the unfoldings of these outputs is the number, or above the cap
abbrev pub Weighs : Circuit ℕ → List ℕ → ℕ → Weight → Type 0
Weighs c outputs cap (Within w) = IsWeight c outputs w × (w ≤ cap)
Weighs c outputs cap Over = IsOver c outputs cap

-- what a gate counts
abbrev pub gate_weight : NetView → Option Gate → ℕ
gate_weight n None = 1
gate_weight n (Some g) = 1 + max 1 (length (cover_of n.covers g).rows) * (length g.fanins + 1)

-- what the signal of a driver counts
abbrev pub driver_weight : NetView → Option Driver → ℕ
driver_weight n None = 1
driver_weight n (Some (driver.Input i)) = 1
driver_weight n (Some (driver.Gate j)) = gate_weight n (slice_get n.gates j)
driver_weight n (Some (driver.Latch j)) = 1

-- what the signal counts
abbrev pub weight_of : NetView → ℕ → ℕ
weight_of n s = driver_weight n (slice_get n.drivers s)

-- Distinct pairs of a signal and a number of cycles that the unfoldings of the outputs visit, with the sum of their weights.
-- A signal so many cycles ago has at least as many pairs before it.
pub record AreMet (n : NetView) (outputs : List ℕ) (places : List (ℕ × ℕ)) (total : ℕ) : Type 0 where
  pub distinct : AreDistinct places
  pub visited : (i : ℕ) (p : ℕ × ℕ) → slice_get places i ≡ Some p → (o : ℕ) × Contains outputs o × Visits (circuit_of n) o 0 p.0 p.1
  pub within : (i : ℕ) (p : ℕ × ℕ) → slice_get places i ≡ Some p → p.0 < length n.drivers
  pub early : (i : ℕ) (p : ℕ × ℕ) → slice_get places i ≡ Some p → p.1 ≤ i
  pub sum : sum_by (λ p. weight_of n p.0) places ≡ total

-- each place stays
abbrev pub Stay : List (ℕ × ℕ) → List (ℕ × ℕ) → Type 0
Stay old new = (i : ℕ) (p : ℕ × ℕ) → slice_get old i ≡ Some p → slice_get new i ≡ Some p

-- the place is there already, or was put last and counts
abbrev pub IsMet : NetView → List (ℕ × ℕ) → List (ℕ × ℕ) → ℕ × ℕ → ℕ → ℕ → Type 0
IsMet n old new place total sum =
    (Contains old place × (new ≡ old) × (sum ≡ total)) ⊎ ((Contains old place → ⊥) × (new ≡ old ++ place ∷ []) × (sum ≡ total + weight_of n place.0))

-- the sum with the place, or that it is above the cap
abbrev pub Meeting : NetView → List (ℕ × ℕ) → List (ℕ × ℕ) → ℕ × ℕ → ℕ → ℕ → Option ℕ → Type 0
Meeting n old new place total cap (Some sum) = IsMet n old new place total sum × (sum ≤ cap)
Meeting n old new place total cap None = IsMet n old new place total (total + weight_of n place.0) × (cap < total + weight_of n place.0)

-- the unfoldings of the outputs visit these signals, so many cycles ago
abbrev pub AreVisited : NetView → List ℕ → List Signal → ℕ → Type 0
AreVisited n outputs reads shift = (k : ℕ) (r : Signal) → slice_get reads k ≡ Some r → (o : ℕ) × Contains outputs o × Visits (circuit_of n) o 0 r.0 shift

-- the signals are there so many cycles ago
abbrev pub AreThere : List Signal → ℕ → ℕ → List (ℕ × ℕ) → Type 0
AreThere reads count shift places = (k : ℕ) (r : Signal) → k < count → slice_get reads k ≡ Some r → Contains places (r.0, shift)

-- the unfoldings of the outputs visit the place
abbrev pub IsVisited : NetView → List ℕ → ℕ × ℕ → Type 0
IsVisited n outputs p = (o : ℕ) × Contains outputs o × Visits (circuit_of n) o 0 p.0 p.1

-- what the place reads is there, a latch's in the cycle before
abbrev pub AreReadsThere : List Node → ℕ × ℕ → List (ℕ × ℕ) → Type 0
AreReadsThere nodes p places = (node : Node) (k : ℕ) (r : Signal) → slice_get nodes p.0 ≡ Some node → slice_get node.reads k ≡ Some r → Contains places (r.0, p.1 + step_of node.latch)
