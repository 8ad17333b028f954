-- What the enables of the two latches visit, as it is counted before their pair is compared.
use Rattle.std.specs.Prelude.{ℕ, [], ◌∷◌, Some}
use Rattle.circuit_theory.specs.EventSizes.{Start}
use Rattle.event_nodes.specs.Visited.{CounterView}
use Rattle.event_form.specs.event_agreement.pair_events.Counted.{HaveCounted}
use Rattle.event_form.specs.event_agreement.pair_events.View.{EventsView}
use Rattle.event_form.specs.event_agreement.pair_events.Within.{AreTotalsWithin, IsCountedOnce}
use Rattle.event_form.specs.event_findings.unshown_pairs.class_events.Made.{AreEnablesCounted}
use Rattle.premise_rows.specs.event_pair_premises.Comparable.{CanBeCompared}
use Rattle.premise_rows.specs.event_pair_premises.Held.{loads_a, loads_not_a}
use Rattle.premise_rows.specs.event_pair_premises.HeldCompared.{with_classes, held_compared, IsToldApart}

-- the enable of either latch is a function of what the latch takes over, with the latch itself left out
abbrev pub enable_start : Start ℕ
enable_start = record { place = 3; left_out = Some 2 }

-- at the root: what the latch takes over, which weighs 9, and e, a and the latch, which it reads
abbrev pub enable_count : CounterView
enable_count = record { places = (0, 3) ∷ (0, 0) ∷ (0, 1) ∷ (0, 2) ∷ []; weight = 12 }

-- the two circuits with their classes, where that was counted in each
abbrev pub with_enables : EventsView
with_enables = record with_classes { left_count = enable_count; right_count = enable_count }

-- What was counted is what the enables of all latches visit, each place once, and is within the numbers of the definition. So the pair of outputs
-- can be compared.
pub record EnablesAreCounted : Type 0 where
  pub first : CanBeCompared with_enables held_compared
  pub separated : IsToldApart with_enables
  pub once : IsCountedOnce with_enables
  pub counted : HaveCounted with_enables (enable_start ∷ []) (enable_start ∷ [])
  pub all_enables : AreEnablesCounted with_enables
  pub totals : AreTotalsWithin loads_a loads_not_a (enable_start ∷ []) (enable_start ∷ [])
