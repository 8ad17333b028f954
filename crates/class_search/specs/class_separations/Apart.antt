-- When what tells two classes apart is right.
use Rattle.std.specs.Prelude.{◌≡◌, ℕ, zero, suc, ◌+◌, ◌<◌, ◌≤◌, true, false, not, List, length, slice_get, Option, Some, None, All, Contains}
use Rattle.circuit_theory.specs.Joined.{Either}
use Rattle.circuit_theory.specs.EventFrames.{IsSeparation, IsSeparationFromAlways, AreNodeVariables, IsClassTree}
use Rattle.circuit_theory.specs.Frame.{EventSide}
use Rattle.sec_base.specs.declared.basics.Tag.{Tag}
use Rattle.event_nodes.specs.Nodes.{EventGraphView}
use Rattle.class_search.specs.event_variables.Variables.{variables_of}
use Rattle.aig.specs.Values.{value}
use Rattle.pair_decide.specs.Queries.{assigned_to}
use Rattle.class_search.specs.declared.compare.Enable.{Enable}
use Rattle.edbf_unfold.specs.class_queries.Enables.{both_of}
use Rattle.event_nodes.specs.View.{EventCircuitView}
use Rattle.circuit_laws.specs.reset_laws.class_extension.Telling.{TellsApart, TellsFromAlways}
use Rattle.class_search.specs.declared.class.Class.{Class}
use Rattle.class_search.specs.declared.told.Difference.{Difference}
use Rattle.class_search.specs.declared.told.Told.{Told}
use Rattle.class_search.specs.declared.class_separations.apart.Apart.{Apart}
use Rattle.class_search.specs.class_separations.Least.{DifferIn, IsOffIn, TellsIn, IsLeastFrame}

-- it is the separation from a latch of the lower class, or from `always`, in the frame of its variables
abbrev pub IsSeparationBy : EventSide (Either ℕ ℕ) → EventGraphView → (Tag → Either ℕ ℕ) → List (Either ℕ ℕ) → ℕ → ℕ → Apart → Option Tag → Type 0
IsSeparationBy s w place order low high x None = (low ≡ 0) × (x.left ≡ true) × (x.right ≡ false) × IsSeparationFromAlways s order high (place x.high) (variables_of w x.vars) x.bits
IsSeparationBy s w place order low high x (Some t) = (0 < low) × IsSeparation s order low high (place t) (place x.high) (variables_of w x.vars) x.bits x.left x.right

-- what tells the two classes apart, up to 16 variables by the least frame that does
pub record IsApart (s : EventSide (Either ℕ ℕ)) (w : EventGraphView) (place : Tag → Either ℕ ℕ) (order : List (Either ℕ ℕ)) (low high : ℕ) (x : Apart) : Type 0 where
  pub within : All (λ v. v < length w.places) x.vars
  pub separates : IsSeparationBy s w place order low high x x.low
  pub least : IsLeastFrame (TellsIn s place x.low x.high) (variables_of w x.vars) x.bits

-- how many two classes there are below a class
abbrev pub pairs_below : ℕ → ℕ
pairs_below zero = 0
pairs_below (suc n) = pairs_below n + n

-- where what tells two classes apart stands in the list: (0, 1), (0, 2), (1, 2), (0, 3) and so on
abbrev pub number_of : ℕ → ℕ → ℕ
number_of low high = pairs_below high + low

-- one for each two classes of so many besides class 0
pub record AreApart (s : EventSide (Either ℕ ℕ)) (w : EventGraphView) (place : Tag → Either ℕ ℕ) (order : List (Either ℕ ℕ)) (count : ℕ) (aparts : List Apart) : Type 0 where
  pub long : length aparts ≡ pairs_below (suc count)
  pub each : (low high : ℕ) → low < high → high ≤ count → (x : Apart) × (slice_get aparts (number_of low high) ≡ Some x) × IsApart s w place order low high x

-- the variables of each member are those of its enable
abbrev pub HaveOwnVariables : EventSide (Either ℕ ℕ) → EventGraphView → (Tag → Either ℕ ℕ) → List Class → Type 0
HaveOwnVariables s w place classes =
    (k i : ℕ) (c : Class) (t : Tag) (x : Enable) → slice_get classes k ≡ Some c → slice_get c.tags.items i ≡ Some t → slice_get c.enables.items i ≡ Some x →
    All (λ v. v < length w.places) x.vars × AreNodeVariables (IsClassTree s (place t) (place t)) (variables_of w x.vars)

-- each member of the class is a latch that was taken, and has an enable
pub record AreTaken (place : Tag → Either ℕ ℕ) (latches : List (Either ℕ ℕ)) (c : Class) : Type 0 where
  pub paired : length c.tags.items ≡ length c.enables.items
  pub taken : (i : ℕ) (t : Tag) → slice_get c.tags.items i ≡ Some t → Contains latches (place t)

abbrev pub AreTakenMembers : (Tag → Either ℕ ℕ) → List (Either ℕ ℕ) → List Class → Type 0
AreTakenMembers place taken classes = (k : ℕ) (c : Class) → slice_get classes k ≡ Some c → AreTaken place taken c

-- of the classes so far, the variables of their members, and what tells each two apart
pub record AreToldApart (a b : EventCircuitView) (w : EventGraphView) (place : Tag → Either ℕ ℕ) (taken : List (Either ℕ ℕ)) (classes : List Class) (aparts : List Apart) : Type 0 where
  pub own : HaveOwnVariables (both_of a b) w place classes
  pub apart : AreApart (both_of a b) w place taken (length classes) aparts

-- what tells the latch from a class: from the first of its members, each enable once, from which it differs, by the least frame
pub record IsToldOf (s : EventSide (Either ℕ ℕ)) (w : EventGraphView) (place : Tag → Either ℕ ℕ) (taken : List (Either ℕ ℕ)) (u : Either ℕ ℕ) (class : ℕ) (c : Class) (t : Told) : Type 0 where
  pub tag : Tag
  pub enable : Enable
  pub tag_at : slice_get c.tags.items t.member ≡ Some tag
  pub enable_at : slice_get c.enables.items t.member ≡ Some enable
  pub within : All (λ v. v < length w.places) t.difference.vars
  pub tells : TellsApart s taken class (place tag) u (variables_of w t.difference.vars) t.difference.bits (value w.graph (assigned_to t.difference.vars t.difference.bits) enable.value.0)
      (not (value w.graph (assigned_to t.difference.vars t.difference.bits) enable.value.0))
  pub least : IsLeastFrame (DifferIn s (place tag) u) (variables_of w t.difference.vars) t.difference.bits

-- what tells it from `always` and from each class
pub record AreToldOf (s : EventSide (Either ℕ ℕ)) (w : EventGraphView) (place : Tag → Either ℕ ℕ) (taken : List (Either ℕ ℕ)) (u : Either ℕ ℕ) (classes : List Class) (always : Difference) (told : List Told) : Type 0 where
  pub long : length told ≡ length classes
  pub within : All (λ v. v < length w.places) always.vars
  pub always_is : TellsFromAlways s u (variables_of w always.vars) always.bits
  pub always_least : IsLeastFrame (IsOffIn s u) (variables_of w always.vars) always.bits
  pub each : (k : ℕ) (c : Class) (t : Told) → slice_get classes k ≡ Some c → slice_get told k ≡ Some t → IsToldOf s w place taken u (suc k) c t
