-- The steps of the places of a walk, in an order in which each can be done.
use Rattle.std.specs.Prelude.{◌≡◌, ℕ, ◌-◌, List, length, map, slice_get, Some, All, Contains}
use Rattle.std.specs.List.{sum_by}
use Rattle.edbf_unfold.specs.declared.event_literals.event_walk.frames.Frame.{Frame}
use Rattle.edbf_unfold.specs.declared.event_literals.event_walk.frames.Step.{Step}
use Rattle.edbf_unfold.specs.declared.event_literals.event_walk.frames.Ways.{Ways}
use Rattle.event_nodes.specs.View.{EventCircuitView}
use Rattle.edbf_unfold.specs.event_literals.event_walk.Ready.{IsPlan}
use Rattle.event_nodes.specs.flat_net.Weights.{weight_at}
use Rattle.edbf_unfold.specs.event_literals.event_walk.Walk.{IsSeen, IsExpanded}

-- the step of a place: the later its event node was made, the lower the rank
abbrev pub IsStepOf : List Frame → ℕ → ℕ × ℕ → Ways → Step → Type 0
IsStepOf frames nodes p ways step = (f : Frame) × (slice_get frames p.0 ≡ Some f) × (step ≡ record { rank = nodes - f.node; signal = p.1; frame = p.0; onward = ways.onward; high = ways.high })

-- the place that a step unfolds
abbrev pub place_of : Step → ℕ × ℕ
place_of s = (s.frame, s.signal)

-- one step for each place
pub record AreSteps (frames : List Frame) (nodes : ℕ) (table : List (ℕ × ℕ)) (ways : List Ways) (steps : List Step) : Type 0 where
  pub places : map place_of steps ≡ table
  pub is : (i : ℕ) (p : ℕ × ℕ) (g : Ways) → slice_get table i ≡ Some p → slice_get ways i ≡ Some g → (s : Step) × (slice_get steps i ≡ Some s) × IsStepOf frames nodes p g s

-- each place is expanded in the frames that stand beside it
pub record AreExpanded (e : EventCircuitView) (frames : List Frame) (children : List (ℕ × ℕ)) (table : List (ℕ × ℕ)) (ways : List Ways) : Type 0 where
  pub each : length ways ≡ length table
  pub seen : All (IsSeen e frames children) table
  pub expanded : (i : ℕ) (p : ℕ × ℕ) (g : Ways) → slice_get table i ≡ Some p → slice_get ways i ≡ Some g → IsExpanded e frames children table p g

-- a plan with a step for each place, which weighs what the places weigh
pub record IsPlanOf (e : EventCircuitView) (frames : List Frame) (children : List (ℕ × ℕ)) (table : List (ℕ × ℕ)) (plan : List Step) : Type 0 where
  pub is_plan : IsPlan e frames children plan
  pub has : (p : ℕ × ℕ) → Contains table p → (s : Step) × Contains plan s × (place_of s ≡ p)
  pub weighs : sum_by (λ s. weight_at e.net s.signal) plan ≡ sum_by (λ p. weight_at e.net p.1) table
