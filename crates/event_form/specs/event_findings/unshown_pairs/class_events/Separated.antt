-- What tells the classes of two circuits apart, over their event graph.
use Rattle.std.specs.Prelude.{ℕ, ◌≤◌, List, All}
use Rattle.circuit_theory.specs.Classes.{HasClasses}
use Rattle.event_classes.specs.Order.{place_of}
use Rattle.event_classes.specs.KeptApart.{Apart}
use Rattle.event_classes.specs.Apart.{IsApart, AreApart}
use Rattle.event_classes.specs.Named.{NamesLatches}
use Rattle.event_form.specs.event_agreement.pair_events.View.{EventsView, side_of_both}

-- It tells these two classes apart; class 0 stands for `always`.
pub record TellsClassesApart (e : EventsView) (low high : ℕ) (x : Apart) : Type 0 where
  pub names : NamesLatches e.left.net e.right.net x
  pub classes : HasClasses (side_of_both e)
  pub apart : IsApart (side_of_both e) e.events (place_of e.left.net e.right.net) classes.order low high x

-- One tells each two classes apart, of at most 500.
pub record AreSeparated (e : EventsView) (aparts : List Apart) : Type 0 where
  pub few : e.count ≤ 500
  pub names : All (NamesLatches e.left.net e.right.net) aparts
  pub classes : HasClasses (side_of_both e)
  pub apart : AreApart (side_of_both e) e.events (place_of e.left.net e.right.net) classes.order e.count aparts
