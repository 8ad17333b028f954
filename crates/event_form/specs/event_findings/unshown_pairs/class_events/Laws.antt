-- How the count of what is unfolded begins, and what stays while the event graph grows. Each law is the contract of a function of this crate.
use Rattle.std.specs.Prelude.{◌≡◌, ℕ, List, []}
use Rattle.circuit_theory.specs.Joined.{Either}
use Rattle.circuit_theory.specs.Frame.{EventSide}
use Rattle.sec_base.specs.declared.basics.Tag.{Tag}
use Rattle.event_nodes.specs.Nodes.{EventGraphView, IsEventGraph, GrowsEvents}
use Rattle.event_classes.specs.KeptApart.{Apart}
use Rattle.event_classes.specs.Apart.{IsApart}
use Rattle.event_form.specs.event_agreement.pair_events.Counted.{HaveCounted}
use Rattle.event_form.specs.event_agreement.pair_events.View.{EventsView}
use Rattle.event_form.specs.event_findings.unshown_pairs.class_events.Separated.{AreSeparated}

-- Where no event node was made and nothing was counted, what was counted is what no start visits.
abbrev pub CountingBegins : Type 0
CountingBegins = (e : EventsView) → e.events.children ≡ [] → e.left_count ≡ record { places = []; weight = 0 } → e.right_count ≡ record { places = []; weight = 0 } → HaveCounted e [] []

-- What tells two classes apart stays so while the event graph grows.
abbrev pub ApartStays : Type 0
ApartStays = (s : EventSide (Either ℕ ℕ)) (w v : EventGraphView) (place : Tag → Either ℕ ℕ) (order : List (Either ℕ ℕ)) (low high : ℕ) (x : Apart) → IsEventGraph w → GrowsEvents w v → IsApart s w place order low high x → IsApart s v place order low high x

-- And so does what tells each two classes of two circuits apart.
abbrev pub SeparatedStay : Type 0
SeparatedStay = (e f : EventsView) (aparts : List Apart) → IsEventGraph e.events → f.left ≡ e.left → f.right ≡ e.right → f.count ≡ e.count → GrowsEvents e.events f.events → AreSeparated e aparts → AreSeparated f aparts
