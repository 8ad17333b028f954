-- The places of an unfolding: a cycle and a signal. Cycles are counted so that `last` is that of the signal which is
-- unfolded: a place in cycle t is looked at last - t cycles ago.
use Rattle.std.specs.Prelude.{◌≡◌, ◌⊎◌, ℕ, ◌+◌, ◌-◌, ◌<◌, ◌≤◌, List, Contains}
use Rattle.circuit_theory.specs.Circuit.{Circuit, IsLatch, Reads}
use Rattle.circuit_theory.specs.Sizes.{Visits}

-- what a place reads: through a gate in the same cycle, through a latch in the cycle before
abbrev pub Steps : Circuit ℕ → ℕ × ℕ → ℕ × ℕ → Type 0
Steps c p q = ((q.0 ≡ p.0) × Reads c p.1 q.1) ⊎ ((q.0 + 1 ≡ p.0) × (name : List ℕ) × IsLatch c name p.1 q.1)

-- earlier cycles come first, and then lower signals
abbrev pub PlaceBefore : ℕ × ℕ → ℕ × ℕ → Type 0
PlaceBefore p q = (p.0 < q.0) ⊎ ((p.0 ≡ q.0) × (p.1 < q.1))

-- the unfolding of one of the signals visits the place
pub record IsVisited (c : Circuit ℕ) (last : ℕ) (signals : List ℕ) (p : ℕ × ℕ) : Type 0 where
  pub cycle : p.0 ≤ last
  pub from : ℕ
  pub among : Contains signals from
  pub visits : Visits c from 0 p.1 (last - p.0)
