-- What is found out about a latch.
use Rattle.std.specs.Prelude.{◌≡◌, ◌↔◌, ◌⊎◌, ℕ, ◌*◌, ◌<◌, ◌≤◌, Bool, true, false, not, ◌||◌, if◌then◌else◌, List, length, slice_get, Some}
use Rattle.circuit_theory.specs.Circuit.{Circuit, Meets, InCone}
use Rattle.circuit_theory.specs.Query.{bits_of}
use Rattle.circuit_theory.specs.Run.{ExtendsWith, Loads, IsEnabled}
use Rattle.circuit_theory.specs.Sizes.{IsConeWeight, IsConeOver}
use Rattle.sec_base.specs.declared.limits.TheConstants.{MAX_WEIGHT}
use Rattle.flat_net.specs.View.{NetView, circuit_of}
use Rattle.aig.specs.declared.node.Node.{Node}
use Rattle.aig.specs.declared.node.Node.TheVariants.{Input}
use Rattle.aig.specs.Graph.{IsGraph, IsLitOf}
use Rattle.aig.specs.Builds.{HasTreeLit}
use Rattle.aig.specs.Values.{value}
use Rattle.pair_decide.specs.declared.query.Query.{Query}
use Rattle.pair_decide.specs.declared.query.Proof.{Proof}
use Rattle.pair_decide.specs.declared.query.Decision.{Decision}
use Rattle.pair_decide.specs.declared.query.Decision.TheVariants as decision
use Rattle.pair_decide.specs.Queries.{IsQuery}
use Rattle.pair_decide.specs.Answers.{IsAtLimit}
use Rattle.latch_kinds.specs.declared.unate_enable.support.LatchCone.{LatchCone}
use Rattle.latch_kinds.specs.declared.unate_enable.recovery.Recovery.{Recovery}
use Rattle.latch_kinds.specs.declared.unate_enable.recovery.Recovery.TheVariants as recovery
use Rattle.signal_graph.specs.inner_cone.Inner.{AreRanked}
use Rattle.latch_kinds.specs.declared.unate_enable.facts.NetFacts.{NetFacts}
use Rattle.latch_kinds.specs.unate_enable.Cones.{out_of_latch, data_of_latch, IsConeOfLatch, places_of}

-- the latch is in the cone of what it takes over itself
abbrev pub HasSelfEdge : NetView → ℕ → Type 0
HasSelfEdge n j = InCone (circuit_of n) (data_of_latch n j) (out_of_latch n j)

-- values that meet all gates, with the latch u at the bit and the k-th of the places at the assignment's bit k
pub record IsCase (c : Circuit ℕ) (u : ℕ) (bit : Bool) (places : List ℕ) (a v : ℕ → Bool) : Type 0 where
  pub meets : Meets c v
  pub put : v u ≡ bit
  pub takes : (k p : ℕ) → slice_get places k ≡ Some p → v p ≡ a k

-- the literal of a leaf: the bit for the latch u, and variable k for the k-th of the places
abbrev pub IsLeafLit : ℕ → Bool → List ℕ → List Node → ℕ → ℕ → Type 0
IsLeafLit u bit places g s x = ((s ≡ u) × (x ≡ (if bit then 1 else 0))) ⊎ ((k : ℕ) × (slice_get places k ≡ Some s) × IsLitOf g (Input k) x)

-- The literal is that of the tree of what the latch takes over, as a function of these places, where the latch itself is read as the bit.
pub record IsNextLit (n : NetView) (j : ℕ) (bit : Bool) (places : List ℕ) (g : List Node) (lit : ℕ) : Type 0 where
  pub within : lit < 2 * length g
  pub tree : HasTreeLit (circuit_of n) g (IsLeafLit (out_of_latch n j) bit places g) (data_of_latch n j) lit
  pub is : (a v : ℕ → Bool) → IsCase (circuit_of n) (out_of_latch n j) bit places a v → v (data_of_latch n j) ≡ value g a lit

-- The query of the latch: f0, f1, and f0 as the care, where variable k stands for the k-th of the places.
pub record IsQueryOf (n : NetView) (j : ℕ) (places : List ℕ) (g : List Node) (q : Query) : Type 0 where
  pub query : IsQuery g q
  pub low : IsNextLit n j false places g q.left.0
  pub high : IsNextLit n j true places g q.right.0
  pub care : q.care ≡ q.left
  pub each : length q.vars ≡ length places
  pub variables : (k : ℕ) → k < length places → slice_get q.vars k ≡ Some k

-- values of the cone's inputs and then of its other latches, with which the latch takes over 1 where it is 0, and 0 where it is 1
pub record FallsAt (n : NetView) (j : ℕ) (bits : List Bool) : Type 0 where
  pub cone : LatchCone
  pub cone_is : IsConeOfLatch n j cone
  pub each : length bits ≡ length (places_of n cone)
  pub x : ℕ → Bool
  pub takes : (k p : ℕ) → slice_get (places_of n cone) k ≡ Some p → slice_get bits k ≡ Some (x p)
  pub low : ℕ → Bool
  pub high : ℕ → Bool
  pub low_is : ExtendsWith (circuit_of n) (out_of_latch n j) false x low
  pub high_is : ExtendsWith (circuit_of n) (out_of_latch n j) true x high
  pub low_is_one : low (data_of_latch n j) ≡ true
  pub high_is_zero : high (data_of_latch n j) ≡ false

-- The latch takes over f0 where its enable `f0 or not f1` is 1, and else keeps its value; it loads exactly where the enable is 1.
abbrev pub LoadsOrKeeps : Circuit ℕ → ℕ → ℕ → Type 0
LoadsOrKeeps c u next = (x low high : ℕ → Bool) → Meets c x → ExtendsWith c u false x low → ExtendsWith c u true x high →
    (x next ≡ (if low next || not (high next) then low next else x u)) × (Loads c x u next ↔ ((low next || not (high next)) ≡ true))

-- it is enabled
pub record IsEnabledAt (n : NetView) (j : ℕ) : Type 0 where
  pub enabled : IsEnabled (circuit_of n) (out_of_latch n j)
  pub loads_or_keeps : LoadsOrKeeps (circuit_of n) (out_of_latch n j) (data_of_latch n j)

-- it isn't, since there are values with which it falls: up to 16 of them the least, where the first value is the lowest bit of the number
pub record IsNotUnate (n : NetView) (j : ℕ) (bits : List Bool) : Type 0 where
  pub falls : FallsAt n j bits
  pub least : length bits ≤ 16 → (number : ℕ) × (bits ≡ bits_of number (length bits)) × ((m : ℕ) → m < number → FallsAt n j (bits_of m (length bits)) → ⊥)
  pub not_enabled : IsEnabled (circuit_of n) (out_of_latch n j) → ⊥

-- the search for such values has met the limit
pub record IsUndecided (n : NetView) (j conflicts : ℕ) (proof : Proof) : Type 0 where
  pub cone : LatchCone
  pub cone_is : IsConeOfLatch n j cone
  pub graph : List Node
  pub graph_is : IsGraph graph
  pub query : Query
  pub query_is : IsQueryOf n j (places_of n cone) graph query
  pub limit : IsAtLimit graph query conflicts proof

-- The weight of what the latch takes over is within the limit.
pub record IsLight (n : NetView) (j : ℕ) : Type 0 where
  pub weight : ℕ
  pub weight_is : IsConeWeight (circuit_of n) (data_of_latch n j) weight
  pub within : weight ≤ MAX_WEIGHT

-- it has a self-edge, and its cone isn't too large
abbrev pub IsAsked : NetView → ℕ → Type 0
IsAsked n j = HasSelfEdge n j × IsLight n j

-- what a decision says of the latch
abbrev pub recovery_of : Decision → Recovery
recovery_of (decision.Same by) = recovery.Enabled
recovery_of (decision.Differs bits) = recovery.NotUnate bits
recovery_of (decision.Limit proof) = recovery.Limit proof

-- the answer to the query is right
abbrev pub IsAnswer : NetView → ℕ → ℕ → Recovery → Type 0
IsAnswer n j conflicts recovery.Plain = ⊥
IsAnswer n j conflicts recovery.Enabled = IsEnabledAt n j
IsAnswer n j conflicts (recovery.NotUnate bits) = IsNotUnate n j bits
IsAnswer n j conflicts (recovery.Limit proof) = IsUndecided n j conflicts proof

-- what is found out is right
abbrev pub IsRecovery : NetView → ℕ → ℕ → Recovery → Type 0
IsRecovery n j conflicts recovery.Plain = HasSelfEdge n j → ⊥
IsRecovery n j conflicts recovery.Enabled = IsAsked n j × IsEnabledAt n j
IsRecovery n j conflicts (recovery.NotUnate bits) = IsAsked n j × IsNotUnate n j bits
IsRecovery n j conflicts (recovery.Limit proof) = IsAsked n j × IsUndecided n j conflicts proof

-- it has a self-edge, and its cone is too large
abbrev pub IsTooLarge : NetView → ℕ → Type 0
IsTooLarge n j = HasSelfEdge n j × IsConeOver (circuit_of n) (data_of_latch n j) MAX_WEIGHT

-- no latch of the net takes over what weighs more than the limit
abbrev pub AreConesLight : NetView → Type 0
AreConesLight n = (j : ℕ) → j < length n.latches → IsLight n j

-- what is known of the net is right
pub record AreFactsOf (n : NetView) (facts : NetFacts) : Type 0 where
  pub ranked : AreRanked n facts.ranks
  pub light : facts.light ≡ true → AreConesLight n
