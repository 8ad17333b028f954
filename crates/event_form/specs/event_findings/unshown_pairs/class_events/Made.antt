-- A class map that is made, as two circuits whose signals can be unfolded.
use Rattle.std.specs.Prelude.{◌≡◌, ℕ, ◌≤◌, List, [], length}
use Rattle.circuit_theory.specs.Joined.{Either}
use Rattle.circuit_theory.specs.Classes.{HasClasses}
use Rattle.circuit_theory.specs.EventSizes.{Start}
use Rattle.circuit_theory.specs.EventTotals.{AreStarts}
use Rattle.circuit_laws.specs.reset_laws.class_extension.Sides.{AreStartsOfBoth}
use Rattle.event_classes.specs.event_functions.class_totals.Totals.{AreWithin}
use Rattle.event_classes.specs.declared.map.ClassMap.{ClassMap}
use Rattle.event_form.specs.event_agreement.pair_events.Counted.{HaveCounted}
use Rattle.event_form.specs.event_agreement.pair_events.View.{EventsView, IsWithinLimits, side_of_both}

abbrev pub events_in : ClassMap → EventsView
events_in m = record { left = m.left; right = m.right; events = m.events; left_count = m.left_count; right_count = m.right_count; count = length m.classes.items }

-- What was counted is what the enables of all latches visit and reach, each in its circuit, and it is within the numbers of the definition: no more than
-- 30,000 latches, no more than 10,000 event nodes, and in each circuit no more weight than 2,000,000.
pub record AreEnablesCounted (e : EventsView) : Type 0 where
  pub classes : HasClasses (side_of_both e)
  pub few : length classes.order ≤ 30000
  pub within : AreWithin e.left e.right classes.order
  pub limits : IsWithinLimits e
  pub starts : List (Start (Either ℕ ℕ))
  pub are : AreStarts (side_of_both e) classes.order [] starts
  pub lefts : List (Start ℕ)
  pub rights : List (Start ℕ)
  pub both : AreStartsOfBoth starts lefts rights
  pub counted : HaveCounted e lefts rights
