-- The variables of a query in the event form, the frame of an assignment, and what stands behind a separation and a frame that is
-- printed.
use Rattle.std.specs.Prelude.{◌≡◌, ◌≢◌, ℕ, ◌<◌, ◌≤◌, ◌⊎◌, Bool, false, List, [], ◌∷◌, ◌++◌, length, None, Some}
use Rattle.std.specs.List.{Contains}
use Rattle.circuit_theory.specs.Names.{same_name}
use Rattle.circuit_theory.specs.Circuit.{IsLatch}
use Rattle.circuit_theory.specs.Run.{IsEnabled}
use Rattle.circuit_theory.specs.Tree.{Tree, tree_value}
use Rattle.circuit_theory.specs.Asked.{AskedPair, AreDifferent}
use Rattle.circuit_theory.specs.Query.{Query, Variable, AreLeaves, assigned, bits_of, Distinguishes, IsLeast}
use Rattle.circuit_theory.specs.Frame.{EventSide, EventUnfolds, ConeLatches, ConeOthers, ReachedAt, HasCare, NodeBefore}
use Rattle.circuit_theory.specs.Classes.{EnableCare, EnableAtRoot, EnablesEqual, IsFounder}
use Rattle.circuit_theory.specs.EventSizes.{IsNodeCount}
use Rattle.circuit_theory.specs.EventQueries.{IsEventPairQuery}

-- a tree that a care reads: one of the two functions of an enabled latch that is reached, at the child by its class
pub data IsCareTree {P : Type 0} (s : EventSide P) (start : P → Type 0) : Tree (List ℕ) → Type 0 where
  enable : {node name : List ℕ} {v next : P} {bit : Bool} {tree : Tree (List ℕ)} → ReachedAt s (IsEnabled s.circuit) start node v → IsLatch s.circuit name v next → IsEnabled s.circuit v →
      EventUnfolds s (IsEnabled s.circuit) (Some (v, bit)) next (s.class v ∷ node) tree → IsCareTree s start tree

-- a tree of the enable of a latch at the root
pub data IsEnableTree {P : Type 0} (s : EventSide P) (u : P) : Tree (List ℕ) → Type 0 where
  own : {name : List ℕ} {next : P} {bit : Bool} {tree : Tree (List ℕ)} → IsLatch s.circuit name u next → IsEnabled s.circuit u →
      EventUnfolds s (IsEnabled s.circuit) (Some (u, bit)) next [] tree → IsEnableTree s u tree

-- the distinct leaves of the trees that are wanted: longer paths first, then by path in the order of class numbers, then by input
abbrev pub AreNodeVariables : (Tree (List ℕ) → Type 0) → List (Variable (List ℕ)) → Type 0
AreNodeVariables wanted variables = AreLeaves NodeBefore wanted variables

-- the trees of a pair's query: of its two sides and of their cares
abbrev pub IsPairTree : {P : Type 0} → EventSide P → P → P → Tree (List ℕ) → Type 0
IsPairTree s p q tree =
    (EventUnfolds s (IsEnabled s.circuit) None p [] tree ⊎ EventUnfolds s (IsEnabled s.circuit) None q [] tree)
    ⊎ (IsCareTree s (ConeLatches s.circuit p) tree ⊎ IsCareTree s (ConeLatches s.circuit q) tree)

-- a pair of the event form as it is asked: the variables are those of its sides and of their cares, and the care is that for both sides
abbrev pub event_pair : {P : Type 0} → EventSide P → P → P → AskedPair (List ℕ)
event_pair s p q = record {
  before = NodeBefore;
  left = EventUnfolds s (IsEnabled s.circuit) None p [];
  right = EventUnfolds s (IsEnabled s.circuit) None q [];
  wanted = λ l r. IsPairTree s p q;
  care = λ l r bits. HasCare s (IsEnabled s.circuit) (ConeLatches s.circuit p) bits × HasCare s (IsEnabled s.circuit) (ConeLatches s.circuit q) bits;
}

-- the trees of a class query: of one enable or of two, and of their cares
abbrev pub IsClassTree : {P : Type 0} → EventSide P → P → P → Tree (List ℕ) → Type 0
IsClassTree s u v tree =
    (IsEnableTree s u tree ⊎ IsEnableTree s v tree)
    ⊎ (IsCareTree s (ConeOthers s.circuit (IsEnabled s.circuit) u) tree ⊎ IsCareTree s (ConeOthers s.circuit (IsEnabled s.circuit) v) tree)

-- the frame in which the variables have these bits, and all else is 0
abbrev pub frame_of : List (Variable (List ℕ)) → List Bool → ℕ → List ℕ → Bool
frame_of variables bits = assigned same_name variables bits

-- the size of a pair: the number of nodes that either side reaches
abbrev pub IsEventSize : {P : Type 0} → EventSide P → P → P → ℕ → Type 0
IsEventSize s p q count = IsNodeCount s (IsEnabled s.circuit) (λ v. ConeLatches s.circuit p v ⊎ ConeLatches s.circuit q v) count

-- What stands behind the frame that is printed for a pair: it has care for both sides and gives them values that differ, and holds
-- exactly the variables of the pair's query.
pub record IsUnshownFrame {P : Type 0} (s : EventSide P) (p q : P) (variables : List (Variable (List ℕ))) (bits : List Bool) (l r : Bool) : Type 0 where
  pub left_tree : Tree (List ℕ)
  pub right_tree : Tree (List ℕ)
  pub left_unfolds : EventUnfolds s (IsEnabled s.circuit) None p [] left_tree
  pub right_unfolds : EventUnfolds s (IsEnabled s.circuit) None q [] right_tree
  pub are_variables : AreNodeVariables (IsPairTree s p q) variables
  pub each : length bits ≡ length variables
  pub left_care : HasCare s (IsEnabled s.circuit) (ConeLatches s.circuit p) (frame_of variables bits)
  pub right_care : HasCare s (IsEnabled s.circuit) (ConeLatches s.circuit q) (frame_of variables bits)
  pub left_value : l ≡ tree_value (frame_of variables bits) left_tree
  pub right_value : r ≡ tree_value (frame_of variables bits) right_tree
  pub differ : l ≢ r

-- What stands behind the separation of two classes other than 0: the founder of the higher one, the first member of the lower one, in the
-- order of joining, from which it differs, and a frame with care for both in which the two enables have these values.
pub record IsSeparation {P : Type 0} (s : EventSide P) (order : List P) (low high : ℕ) (member founder : P) (variables : List (Variable (List ℕ))) (bits : List Bool) (l r : Bool) : Type 0 where
  pub lower : low < high
  pub founder_is : IsFounder s order high founder
  pub before : List P
  pub after : List P
  pub split : order ≡ before ++ member ∷ after
  pub class_is : s.class member ≡ low
  pub earlier : (u : P) → Contains before u → s.class u ≡ low → EnablesEqual s u founder
  pub are_variables : AreNodeVariables (IsClassTree s member founder) variables
  pub each : length bits ≡ length variables
  pub left_care : EnableCare s (frame_of variables bits) member
  pub right_care : EnableCare s (frame_of variables bits) founder
  pub left_is : EnableAtRoot s (frame_of variables bits) member l
  pub right_is : EnableAtRoot s (frame_of variables bits) founder r
  pub differ : l ≢ r

-- the same from class 0, which stands for `always`: the founder's enable is 0
pub record IsSeparationFromAlways {P : Type 0} (s : EventSide P) (order : List P) (high : ℕ) (founder : P) (variables : List (Variable (List ℕ))) (bits : List Bool) : Type 0 where
  pub lower : 0 < high
  pub founder_is : IsFounder s order high founder
  pub are_variables : AreNodeVariables (IsClassTree s founder founder) variables
  pub each : length bits ≡ length variables
  pub care : EnableCare s (frame_of variables bits) founder
  pub off : EnableAtRoot s (frame_of variables bits) founder false

-- both places unfold in the event form, to functions that differ in some frame with care for both
abbrev pub HaveDifferentEvents : {P : Type 0} → EventSide P → P → P → Type 0
HaveDifferentEvents s p q = AreDifferent (event_pair s p q)

-- an assignment of the variables of a pair's query that meets the care and makes the sides differ, up to 16 variables the least one
pub record IsEventDifference {P : Type 0} (s : EventSide P) (p q : P) (query : Query (List ℕ)) (variables : List (Variable (List ℕ))) (bits : List Bool) : Type 0 where
  pub asks : IsEventPairQuery s p q query
  pub are_variables : AreNodeVariables (IsPairTree s p q) variables
  pub each : length bits ≡ length variables
  pub distinguishes : Distinguishes query (frame_of variables bits)
  pub least : length variables ≤ 16 → (number : ℕ) × (bits ≡ bits_of number (length variables)) × IsLeast same_name query variables number
