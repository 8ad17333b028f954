-- What tells the classes of two circuits apart, from the class map, and while the event graph grows.
use Rattle.std.proofs.Common.{◌≡◌, ◌≤◌, ℕ, List, length, Option, Some, None, sym, subst}
use Rattle.std.specs.List.{All}
use Rattle.circuit_theory.specs.Joined.{Either}
use Rattle.circuit_theory.specs.Query.{Variable}
use Rattle.circuit_theory.proofs.Lists.{All-from_each, at_of}
use Rattle.circuit_theory.specs.Classes.{HasClasses}
use Rattle.circuit_theory.specs.EventFrames.{IsSeparation, IsSeparationFromAlways}
use Rattle.circuit_theory.specs.Frame.{EventSide}
use Rattle.sec_base.specs.declared.basics.Tag.{Tag}
use Rattle.event_nodes.specs.Nodes.{EventGraphView, IsEventGraph, GrowsEvents}
use Rattle.event_nodes.specs.View.{EventCircuitView}
use Rattle.event_classes.specs.Order.{place_of}
use Rattle.class_search.specs.event_variables.Variables.{variables_of}
use Rattle.event_form.specs.event_agreement.pair_events.Enables.{both_of}
use Rattle.event_classes.specs.KeptApart.{Apart}
use Rattle.event_classes.specs.Apart.{IsSeparationBy, AreApart}
use Rattle.class_search.specs.class_separations.Least.{IsLeastFrame, TellsIn}
use Rattle.event_classes.proofs.Variables.{variables_same, within_later}
use Rattle.event_classes.specs.declared.map.ClassMap.{ClassMap}
use Rattle.event_classes.specs.Map.{IsClassMapOf}
use Rattle.event_classes.specs.Named.{NamesLatches}
use Rattle.event_form.specs.event_agreement.pair_events.View.{EventsView, side_of_both}
use Rattle.event_form.specs.event_findings.unshown_pairs.class_events.Laws.{ApartStays, SeparatedStay}
use Rattle.event_form.specs.event_findings.unshown_pairs.class_events.Made.{events_in}
use Rattle.event_form.specs.event_findings.unshown_pairs.class_events.Separated.{AreSeparated}

-- what the class map keeps
pub map_separated : (a b : EventCircuitView) (m : ClassMap) → IsClassMapOf a b m → AreSeparated (events_in m) m.aparts.items
map_separated a b m is = record {
  few = is.made.within.classes;
  names = All-from_each (NamesLatches m.left.net m.right.net) m.aparts.items (λ x h. let i = at_of m.aparts.items x h in is.made.named.apart i.0 x i.1);
  classes = is.classes;
  apart = subst (λ (us : List (Either ℕ ℕ)). AreApart (both_of m.left m.right) m.events (place_of m.left.net m.right.net) us (length m.classes.items) m.aparts.items) (sym is.order) is.made.told.apart;
}

separates_stays : (s : EventSide (Either ℕ ℕ)) (w v : EventGraphView) (place : Tag → Either ℕ ℕ) (order : List (Either ℕ ℕ)) (low high : ℕ) (x : Apart) (t : Option Tag) → variables_of v x.vars ≡ variables_of w x.vars → IsSeparationBy s w place order low high x t → IsSeparationBy s v place order low high x t
separates_stays s w v place order low high x None same (e, l, r, h) = (e, l, r, subst (λ (vs : List (Variable (List ℕ))). IsSeparationFromAlways s order high (place x.high) vs x.bits) (sym same) h)
separates_stays s w v place order low high x (Some t) same (p, h) = (p, subst (λ (vs : List (Variable (List ℕ))). IsSeparation s order low high (place t) (place x.high) vs x.bits x.left x.right) (sym same) h)

pub apart_stays : ApartStays
apart_stays s w v place order low high x is grows k = record {
  within = within_later w v is grows x.vars k.within;
  separates = separates_stays s w v place order low high x x.low (variables_same w v is grows x.vars k.within) k.separates;
  least = subst (λ (vs : List (Variable (List ℕ))). IsLeastFrame (TellsIn s place x.low x.high) vs x.bits) (sym (variables_same w v is grows x.vars k.within)) k.least;
}

-- the same over these circuits, with so many classes
abbrev Told : EventsView → List Apart → EventCircuitView → EventCircuitView → ℕ → Type 0
Told f aparts a b n = (n ≤ 500) × All (NamesLatches a.net b.net) aparts × ((c : HasClasses (both_of a b)) × AreApart (both_of a b) f.events (place_of a.net b.net) c.order n aparts)

pub separated_stay : SeparatedStay
separated_stay e f aparts is left right count grows k =
    let h = subst (Told f aparts f.left f.right) (sym count) (subst (λ (b : EventCircuitView). Told f aparts f.left b e.count) (sym right) (subst (λ (a : EventCircuitView). Told f aparts a e.right e.count) (sym left) now)) in
    record { few = h.0; names = h.1; classes = h.2.0; apart = h.2.1 }
  where
    now : Told f aparts e.left e.right e.count
    now = (
      k.few,
      k.names,
      (
        k.classes,
        record {
          long = k.apart.long;
          each = λ low high below within.
              let x = k.apart.each low high below within in
              (x.0, x.1, apart_stays (side_of_both e) e.events f.events (place_of e.left.net e.right.net) k.classes.order low high x.0 is grows x.2);
        },
      ),
    )
