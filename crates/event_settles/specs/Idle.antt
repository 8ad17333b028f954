-- Classes whose loads can't happen: what is told of the first latch of each.
use Rattle.std.specs.Prelude.{◌≡◌, ◌⊎◌, ℕ, ◌<◌, ◌≤◌, Bool, true, false, List, [], Option, Some, None}
use Rattle.circuit_theory.specs.declared.Side.{Side}
use Rattle.circuit_theory.specs.Circuit.{IsLatch}
use Rattle.circuit_theory.specs.Joined.{Either}
use Rattle.circuit_theory.specs.Run.{IsEnabled}
use Rattle.circuit_theory.specs.Frame.{EventSide, ConeLatches, HasCare}
use Rattle.circuit_theory.specs.Classes.{HasClasses, IsFounder, classes_of}
use Rattle.flat_net.specs.Cut.{latch_at}
use Rattle.sec_base.specs.declared.basics.Tag.{Tag}
use Rattle.class_search.specs.event_variables.Laws.{IsSignalTree}
use Rattle.obligations.specs.outcome.Proof.{Proof}
use Rattle.event_nodes.specs.Nodes.{EventGraphView}
use Rattle.event_classes.specs.declared.event_functions.signals.SignalFunction.{SignalFunction}
use Rattle.event_form.specs.event_agreement.event_pairs.Functions.{IsEventFunction}
use Rattle.event_form.specs.event_agreement.pair_events.Counted.{HaveCounted, AreTooMany, IsTooLarge}
use Rattle.event_form.specs.event_agreement.pair_events.View.{EventsView, circuit_at, side_of_both, signal_at}
use Rattle.event_settles.specs.Undecided.{IsCareUndecided}
use Rattle.event_settles.specs.declared.cares.Care.{Care}
use Rattle.event_settles.specs.declared.cares.Care.TheVariants as care
use Rattle.event_settles.specs.declared.cares.IdleLatch.{IdleLatch}
use Rattle.event_settles.specs.declared.cares.PairCare.{PairCare}

-- In the frame the latch has loaded: its enable is 1 there, and so is that of each latch that its load reads, at the event node of it.
abbrev pub HasLoaded : EventSide (Either ℕ ℕ) → Either ℕ ℕ → (ℕ → List ℕ → Bool) → Type 0
HasLoaded s u bits = HasCare s (IsEnabled s.circuit) (ConeLatches s.circuit u) bits

-- its event function by itself is too large: it reaches more than 10,000 event nodes, or weighs more than 2,000,000
pub record IsTooLargeAlone (s : EventSide (Either ℕ ℕ)) (u : Either ℕ ℕ) : Type 0 where
  pub side : Side
  pub signal : ℕ
  pub is : u ≡ signal_at side signal
  pub events : EventsView
  pub same : side_of_both events ≡ s
  pub alone : HaveCounted events [] []
  pub over : AreTooMany side signal events ⊎ IsTooLarge side signal events

-- whether it has loaded in any frame isn't known: the query of that met the limit, or its event function is too large
abbrev pub IsLoadUnknown : EventSide (Either ℕ ℕ) → ℕ → Either ℕ ℕ → Type 0
IsLoadUnknown s conflicts u = ((proof : Proof) × IsCareUndecided (HasLoaded s u) (IsSignalTree s u) conflicts proof) ⊎ IsTooLargeAlone s u

-- it has loaded in no frame; or it has in one, or that isn't known
abbrev pub LatchIs : EventSide (Either ℕ ℕ) → ℕ → Either ℕ ℕ → Bool → Type 0
LatchIs s conflicts u true = (bits : ℕ → List ℕ → Bool) → HasLoaded s u bits → ⊥
LatchIs s conflicts u false = ((bits : ℕ → List ℕ → Bool) × HasLoaded s u bits) ⊎ IsLoadUnknown s conflicts u

-- for all that is known the loads of the class can happen
pub record MayLoad (s : EventSide (Either ℕ ℕ)) (conflicts : ℕ) (class : ℕ) : Type 0 where
  pub classes : HasClasses s
  pub latch : Either ℕ ℕ
  pub first : IsFounder s classes.order class latch
  pub may : LatchIs s conflicts latch false

-- The loads of a class besides `always` can't happen, and the latch of this name is the first of it: it has loaded in no frame.
pub record IsIdle (s : EventSide (Either ℕ ℕ)) (x : IdleLatch) : Type 0 where
  pub class : ℕ
  pub above : 0 < class
  pub classes : HasClasses s
  pub signal : ℕ
  pub next : Either ℕ ℕ
  pub named : IsLatch s.circuit x.name (signal_at x.side signal) next
  pub first : IsFounder s classes.order class (signal_at x.side signal)
  pub never : (bits : ℕ → List ℕ → Bool) → HasLoaded s (signal_at x.side signal) bits → ⊥

-- such a latch, or for all that is known the loads of each class can happen
abbrev pub IdleIs : EventSide (Either ℕ ℕ) → ℕ → Option IdleLatch → Type 0
IdleIs s conflicts None = (classes : HasClasses s) (class : ℕ) → 0 < class → class ≤ classes_of s classes.order → MayLoad s conflicts class
IdleIs s conflicts (Some x) = IsIdle s x

-- the latch that a tag names, as a place of both circuits
abbrev pub signal_of : EventsView → Tag → Either ℕ ℕ
signal_of e t = signal_at t.side (latch_at (circuit_at t.side e).net t.latch).out.0

-- it is told by its circuit and its name
abbrev pub IsNamedAs : EventsView → Tag → IdleLatch → Type 0
IsNamedAs e t x = x ≡ record { side = t.side; name = (latch_at (circuit_at t.side e).net t.latch).name }

-- what is said of a latch by its event function
abbrev pub SignalIs : EventGraphView → ℕ → SignalFunction → Bool → Type 0
SignalIs w conflicts f idle = (s : EventSide (Either ℕ ℕ)) (u : Either ℕ ℕ) → IsEventFunction s w u f → LatchIs s conflicts u idle

-- the pair has care, or that wasn't decided
abbrev pub IsNotNever : PairCare → Type 0
IsNotNever c = by c.care
  where
    by : Care → Type 0
    by care.Met = Unit {0}
    by (care.Never idle) = ⊥
    by (care.Limit proof) = Unit {0}

-- the same care, with this latch where there is none
abbrev pub with_idle : Option IdleLatch → Care → Care
with_idle idle care.Met = care.Met
with_idle idle (care.Never other) = care.Never idle
with_idle idle (care.Limit proof) = care.Limit proof

abbrev pub ToldWith : Option IdleLatch → PairCare → PairCare → Type 0
ToldWith idle c d = d ≡ record { name = c.name; care = with_idle idle c.care }

-- the same care, with a latch that is right
pub record IsToldWith (s : EventSide (Either ℕ ℕ)) (conflicts : ℕ) (c d : PairCare) : Type 0 where
  pub idle : Option IdleLatch
  pub told : ToldWith idle c d
  pub right : (IsNotNever c → ⊥) → IdleIs s conflicts idle
