-- Why the next latch isn't given a class.
use Rattle.std.specs.Prelude.{◌≡◌, ◌⊎◌, ℕ, List, ◌∷◌, Option, Some}
use Rattle.circuit_theory.specs.declared.Side.{Side}
use Rattle.circuit_theory.specs.Depth.{LatchesHaveDepths}
use Rattle.circuit_theory.specs.Joined.{Either}
use Rattle.circuit_theory.specs.EventTotals.{IsClassesOver}
use Rattle.flat_net.specs.View.{circuit_of}
use Rattle.sec_base.specs.declared.basics.Tag.{Tag}
use Rattle.event_nodes.specs.View.{EventCircuitView, Enabled}
use Rattle.class_search.specs.event_order.Order.{IsTagOf}
use Rattle.edbf_unfold.specs.class_queries.Enables.{both_of}
use Rattle.event_classes.specs.event_functions.class_totals.Totals.{AreWithin, ReachTooMany, ReachFew, WeighTooMuch}
use Rattle.class_search.specs.pair_decide.Proof.{Proof}
use Rattle.event_classes.specs.declared.map.ClassMap.{ClassMap}
use Rattle.event_classes.specs.Limits.{IsLimitQuery}
use Rattle.event_classes.specs.Map.{IsMade, Counts, places_in, taken_of, with_next}

-- no cycle of latches is left in either circuit but self-edges of enabled ones
abbrev pub HaveDepths : EventCircuitView → EventCircuitView → Type 0
HaveDepths a b = LatchesHaveDepths (circuit_of a.net) (Enabled a) × LatchesHaveDepths (circuit_of b.net) (Enabled b)

-- with the latch too many event nodes are reached
abbrev pub AreNodesOver : ClassMap → Tag → Type 0
AreNodesOver m tag = Counts m (taken_of m) → ReachTooMany m.left m.right (with_next m tag)

-- with it the circuit of this side weighs too much, and the event nodes are within their number
abbrev pub IsWeightOver : ClassMap → Tag → Side → Type 0
IsWeightOver m tag side = HaveDepths m.left m.right → Counts m (taken_of m) → ReachFew m.left m.right (with_next m tag) × WeighTooMuch side m.left m.right (with_next m tag)

-- it would found one class too many
abbrev pub IsClassOver : ClassMap → Tag → Type 0
IsClassOver m tag = (rest : List (Either ℕ ℕ)) → IsMade m (places_in m tag ∷ rest) → IsClassesOver (both_of m.left m.right) (taken_of m) (places_in m tag) 500

-- one or the other, where all else is within its numbers
abbrev pub IsOverAt : ClassMap → Tag → Type 0
IsOverAt m tag =
    (rest : List (Either ℕ ℕ)) → IsMade m (places_in m tag ∷ rest) → Counts m (taken_of m) →
    ReachTooMany m.left m.right (with_next m tag) ⊎ (AreWithin m.left m.right (with_next m tag) × IsClassesOver (both_of m.left m.right) (taken_of m) (places_in m tag) 500)

-- a query of it met the limit
abbrev pub IsLimitAt : ClassMap → Tag → Tag → Option Tag → ℕ → Proof → Type 0
IsLimitAt m tag latch other conflicts proof =
    (latch ≡ tag)
    × ((rest : List (Either ℕ ℕ)) → IsMade m (places_in m tag ∷ rest) →
    ((t : Tag) → other ≡ Some t → IsTagOf m.left.net m.right.net t) × IsLimitQuery (both_of m.left m.right) (places_in m) (taken_of m) (places_in m tag) other conflicts proof)

-- the same, where all is within its numbers with it
abbrev pub IsLimitWithin : ClassMap → Tag → Tag → Option Tag → ℕ → Proof → Type 0
IsLimitWithin m tag latch other conflicts proof = (Counts m (taken_of m) → AreWithin m.left m.right (with_next m tag)) × IsLimitAt m tag latch other conflicts proof
