-- What the event form asks of pairs of signals.
use Rattle.std.specs.Prelude.{◌≡◌, ◌≢◌, ◌⊎◌, ◌↔◌, ℕ, ◌*◌, ◌<◌, Bool, true, false, List, [], ◌∷◌, length, Contains}
use Rattle.std.specs.List.{AllPairs, AllZip}
use Rattle.circuit_theory.specs.Joined.{Either, Left, Right}
use Rattle.circuit_theory.specs.EventFits.{ReachesAlways}
use Rattle.circuit_theory.specs.EventFrames.{IsEventSize}
use Rattle.circuit_theory.specs.Frame.{EventSide}
use Rattle.aig.specs.Rules.{IsAndOf}
use Rattle.event_nodes.specs.Nodes.{EventGraphView, GrowsEvents}
use Rattle.class_search.specs.event_variables.Variables.{AreInOrder, IsMergeOf}
use Rattle.event_form.specs.event_agreement.event_pairs.SignalFunction.{SignalFunction}
use Rattle.event_form.specs.event_agreement.Queries.{AsksEventPair}
use Rattle.sec_setup.specs.declared.ports.pairs.SignalPair.{SignalPair}
use Rattle.obligations.specs.declared.obligation.Obligation.{Obligation}
use Rattle.obligations.specs.pair_decide.Query.{Query}
use Rattle.event_form.specs.event_agreement.pair_events.View.{EventsView}

-- Whether a difference of the pair shows that the circuits differ: no latch is cut open, and both sides reach latches of class 0 alone.
abbrev pub IsDecisive : EventSide (Either ℕ ℕ) → Bool → ℕ → ℕ → Type 0
IsDecisive s cut p q = (cut ≡ false) × ReachesAlways s (Left p) × ReachesAlways s (Right q)

-- What is asked of a pair: its name, how many event nodes either side reaches, whether a difference is decisive, and one query of both functions
-- wherever both have care.
pub record IsAskedOf (s : EventSide (Either ℕ ℕ)) (w : EventGraphView) (cut : Bool) (p : SignalPair) (o : Obligation) : Type 0 where
  pub name_is : o.name ≡ p.name
  pub size_is : IsEventSize s (Left p.left.0) (Right p.right.0) o.size
  pub decisive_is : (o.decisive ≡ true) ↔ IsDecisive s cut p.left.0 p.right.0
  pub query : Query
  pub only : o.queries ≡ query ∷ []
  pub asks : AsksEventPair s w (Left p.left.0) (Right p.right.0) query

-- the same of several, in order
abbrev pub AreAsked : EventSide (Either ℕ ℕ) → EventGraphView → Bool → List SignalPair → List Obligation → Type 0
AreAsked s w cut pairs asked = AllZip (IsAskedOf s w cut) pairs asked

-- both signals are of the circuits
pub record IsPairOf (e : EventsView) (p : SignalPair) : Type 0 where
  pub left : p.left.0 < length e.left.net.drivers
  pub right : p.right.0 < length e.right.net.drivers

-- the numbers of both lists, each once
pub record IsUnion (left right both : List ℕ) : Type 0 where
  pub exactly : (k : ℕ) → Contains both k ↔ (Contains left k ⊎ Contains right k)
  pub apart : AllPairs (λ j k. j ≢ k) both

-- the same circuits and classes, and more of the event graph behind
pub record IsLater (old new : EventsView) : Type 0 where
  pub left : new.left ≡ old.left
  pub right : new.right ≡ old.right
  pub count : new.count ≡ old.count
  pub grows : GrowsEvents old.events new.events

-- the same, with more nodes of the and-inverter graph alone
pub record HasGraphMore (old new : EventsView) : Type 0 where
  pub grows : GrowsEvents old.events new.events
  pub same : new ≡ record old { events = record old.events { graph = new.events.graph } }

-- the care's literal and the variables are of the graph
pub record IsReadyFunction (w : EventGraphView) (r : SignalFunction) : Type 0 where
  pub care : r.care.0 < 2 * length w.graph
  pub vars : AreInOrder w r.vars

-- the query asks whether both agree wherever both have care
pub record IsQueryOf (w : EventGraphView) (l r : SignalFunction) (query : Query) : Type 0 where
  pub left : query.left ≡ l.value
  pub right : query.right ≡ r.value
  pub care : IsAndOf w.graph l.care.0 r.care.0 query.care.0
  pub within : query.care.0 < 2 * length w.graph
  pub vars : IsMergeOf w l.vars r.vars query.vars
