-- When what tells the classes of a pair apart is right.
use Rattle.std.specs.Prelude.{◌≡◌, ◌⊎◌, ◌↔◌, ℕ, ◌<◌, Bool, true, false, List, Option, Some, None, All, Contains}
use Rattle.std.specs.List.{AllPairs}
use Rattle.circuit_theory.specs.Joined.{Either}
use Rattle.circuit_theory.specs.Query.{Variable}
use Rattle.circuit_theory.specs.Run.{IsEnabled}
use Rattle.circuit_theory.specs.Classes.{HasClasses}
use Rattle.circuit_theory.specs.EventFrames.{IsSeparation, IsSeparationFromAlways}
use Rattle.circuit_theory.specs.Frame.{EventSide, IsNode}
use Rattle.edbf_unfold.specs.class_queries.Enables.{both_of}
use Rattle.event_nodes.specs.View.{EventCircuitView}
use Rattle.class_search.specs.class_separations.Least.{IsLeastFrame, TellsIn}
use Rattle.class_search.specs.event_order.Order.{place_of, IsTagOf}
use Rattle.sec_setup.specs.declared.ports.pairs.SignalPair.{SignalPair}
use Rattle.sec_base.specs.declared.basics.Tag.{Tag}
use Rattle.event_form.specs.event_findings.unshown_pairs.Reached.{PairLatches, BothReachAlways}
use Rattle.event_form.specs.event_findings.unshown_pairs.Told.{TellsBits}
use Rattle.event_form.specs.declared.event_findings.unshown_pairs.separations.ToldSeparation.{ToldSeparation}

-- the class occurs in the path of an event node that either side of the pair reaches
abbrev pub OccursFor : EventSide (Either ℕ ℕ) → SignalPair → ℕ → Type 0
OccursFor s p class = (node : List ℕ) × IsNode s (IsEnabled s.circuit) (PairLatches s p) node × Contains node class

-- The latch is the first of the lower class, in order of joining, from which the founder of the higher one differs, or it is `always` where the
-- lower class is 0. In the frame both enables have care, and these values.
abbrev pub SeparatesBy : EventCircuitView → EventCircuitView → List (Either ℕ ℕ) → ToldSeparation → Option Tag → List (Variable (List ℕ)) → List Bool → Type 0
SeparatesBy a b order x None variables bits = (x.low ≡ 0) × (x.left ≡ true) × (x.right ≡ false) × IsSeparationFromAlways (both_of a b) order x.high (place_of a.net b.net x.high_latch) variables bits
SeparatesBy a b order x (Some t) variables bits =
    (0 < x.low) × IsTagOf a.net b.net t × IsSeparation (both_of a b) order x.low x.high (place_of a.net b.net t) (place_of a.net b.net x.high_latch) variables bits x.left x.right

-- What is told of two classes is a separation of the class map, up to 16 variables by the least frame.
pub record Separates (a b : EventCircuitView) (order : List (Either ℕ ℕ)) (x : ToldSeparation) : Type 0 where
  pub variables : List (Variable (List ℕ))
  pub bits : List Bool
  pub founder : IsTagOf a.net b.net x.high_latch
  pub separates : SeparatesBy a b order x x.low_latch variables bits
  pub least : IsLeastFrame (TellsIn (both_of a b) (place_of a.net b.net) x.low_latch x.high_latch) variables bits
  pub frame : TellsBits variables bits x.frame.items

-- by the lower class, then by the higher one
abbrev pub ComesBefore : ToldSeparation → ToldSeparation → Type 0
ComesBefore x y = (x.low < y.low) ⊎ ((x.low ≡ y.low) × (x.high < y.high))

-- One is told for exactly each two classes that occur in the paths of the pair's event nodes, in order.
pub record AreSeparationsOf (a b : EventCircuitView) (p : SignalPair) (order : List (Either ℕ ℕ)) (told : List ToldSeparation) : Type 0 where
  pub each : All (Separates a b order) told
  pub in_order : AllPairs ComesBefore told
  pub exactly : (i j : ℕ) → ((x : ToldSeparation) × Contains told x × (x.low ≡ i) × (x.high ≡ j)) ↔ ((i < j) × OccursFor (both_of a b) p i × OccursFor (both_of a b) p j)

-- the pair reaches another class than 0, and its classes are told apart
pub record AreToldApart (a b : EventCircuitView) (p : SignalPair) (told : List ToldSeparation) : Type 0 where
  pub others : BothReachAlways (both_of a b) p → ⊥
  pub classes : HasClasses (both_of a b)
  pub separations : AreSeparationsOf a b p classes.order told

-- the same, or the pair reaches class 0 alone
abbrev pub AreToldFor : EventCircuitView → EventCircuitView → SignalPair → Option (List ToldSeparation) → Type 0
AreToldFor a b p None = BothReachAlways (both_of a b) p
AreToldFor a b p (Some told) = AreToldApart a b p told
