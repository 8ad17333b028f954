-- What the sides of a pair reach.
use Rattle.std.specs.Prelude.{◌≡◌, ◌⊎◌, ◌↔◌, ℕ, true, List, Contains}
use Rattle.circuit_theory.specs.Joined.{Either, Left, Right}
use Rattle.circuit_theory.specs.EventFits.{ReachesAlways}
use Rattle.circuit_theory.specs.EventSizes.{Start}
use Rattle.circuit_theory.specs.Frame.{EventSide, ConeLatches}
use Rattle.event_form.specs.Functions.{signal_start}
use Rattle.event_form.specs.event_agreement.event_pairs.Functions.{AreNodesOf}
use Rattle.sec_setup.specs.declared.ports.pairs.SignalPair.{SignalPair}
use Rattle.event_form.specs.event_agreement.pair_events.Counted.{HaveCounted}
use Rattle.event_form.specs.event_agreement.pair_events.View.{EventsView}
use Rattle.event_form.specs.declared.event_findings.unshown_pairs.reach.PairReach.{PairReach}

-- the latches in the cone of either side
abbrev pub PairLatches : EventSide (Either ℕ ℕ) → SignalPair → Either ℕ ℕ → Type 0
PairLatches s p v = ConeLatches s.circuit (Left p.left.0) v ⊎ ConeLatches s.circuit (Right p.right.0) v

-- both sides reach latches of class 0 alone
abbrev pub BothReachAlways : EventSide (Either ℕ ℕ) → SignalPair → Type 0
BothReachAlways s p = ReachesAlways s (Left p.left.0) × ReachesAlways s (Right p.right.0)

-- the event nodes that either side reaches, and whether both reach class 0 alone
pub record IsReachOf (s : EventSide (Either ℕ ℕ)) (children : List (ℕ × ℕ)) (p : SignalPair) (r : PairReach) : Type 0 where
  pub nodes : AreNodesOf s (PairLatches s p) children r.nodes.items
  pub only_is : (r.only_always ≡ true) ↔ BothReachAlways s p

-- what was counted stays counted, where the pair is among the starts
abbrev pub StaysCounted : SignalPair → EventsView → EventsView → Type 0
StaysCounted p old new = (left right : List (Start ℕ)) → Contains left (signal_start p.left.0) → Contains right (signal_start p.right.0) → HaveCounted old left right → HaveCounted new left right
