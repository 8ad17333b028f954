-- The members of a class.
use Rattle.std.specs.Prelude.{◌≡◌, ℕ, suc, ◌<◌, List, ◌∷◌, ◌++◌, length, slice_get, Some, Contains}
use Rattle.circuit_theory.specs.Joined.{Either}
use Rattle.circuit_theory.specs.Frame.{EventSide}
use Rattle.sec_base.specs.declared.basics.Tag.{Tag}
use Rattle.event_nodes.specs.Nodes.{EventGraphView}
use Rattle.class_search.specs.declared.compare.Enable.{Enable}
use Rattle.edbf_unfold.specs.class_queries.Enables.{IsEnableFunction}
use Rattle.class_search.specs.declared.class.Class.{Class}
use Rattle.class_search.specs.declared.search.Fit.{Fit}
use Rattle.class_search.specs.declared.search.Fit.TheVariants as fit

-- one of the first of these enables has the latch's literals
abbrev pub IsAmong : EventSide (Either ℕ ℕ) → EventGraphView → List Enable → ℕ → Either ℕ ℕ → Type 0
IsAmong s w enables count u = (i : ℕ) × (x : Enable) × (i < count) × (slice_get enables i ≡ Some x) × IsEnableFunction s w u x.value.0 x.care.0

-- the latch was taken and is of the class, this is its enable, and those of the class that were taken before it have the literals of members
-- before it
pub record IsMember (s : EventSide (Either ℕ ℕ)) (w : EventGraphView) (taken : List (Either ℕ ℕ)) (class : ℕ) (enables : List Enable) (i : ℕ) (u : Either ℕ ℕ) (x : Enable) : Type 0 where
  pub class_is : s.class u ≡ class
  pub function : IsEnableFunction s w u x.value.0 x.care.0
  pub before : List (Either ℕ ℕ)
  pub after : List (Either ℕ ℕ)
  pub split : taken ≡ before ++ u ∷ after
  pub earlier : (v : Either ℕ ℕ) → Contains before v → s.class v ≡ class → IsAmong s w enables i v

-- Of each enable that a latch of the class has which was taken, the first latch that has it, in the order in which they were taken.
pub record HasMembers (s : EventSide (Either ℕ ℕ)) (w : EventGraphView) (place : Tag → Either ℕ ℕ) (taken : List (Either ℕ ℕ)) (class : ℕ) (c : Class) : Type 0 where
  pub paired : length c.tags.items ≡ length c.enables.items
  pub each : (i : ℕ) (t : Tag) (x : Enable) → slice_get c.tags.items i ≡ Some t → slice_get c.enables.items i ≡ Some x → IsMember s w taken class c.enables.items i (place t) x
  pub all : (u : Either ℕ ℕ) → Contains taken u → s.class u ≡ class → IsAmong s w c.enables.items (length c.enables.items) u

-- each class has its members, class 1 the first one of the list
abbrev pub HaveMembers : EventSide (Either ℕ ℕ) → EventGraphView → (Tag → Either ℕ ℕ) → List (Either ℕ ℕ) → List Class → Type 0
HaveMembers s w place taken classes = (k : ℕ) (c : Class) → slice_get classes k ≡ Some c → HasMembers s w place taken (suc k) c

-- the number of the class that was found
abbrev pub class_of_fit : List Class → Fit → ℕ
class_of_fit classes fit.Always = 0
class_of_fit classes (fit.Joins place) = suc place
class_of_fit classes (fit.Founds always told) = suc (length classes)
