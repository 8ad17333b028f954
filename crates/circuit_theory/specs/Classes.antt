-- Classes of latches that load together, and what tells two enables apart.
use Rattle.std.specs.Prelude.{◌≡◌, ◌≢◌, ℕ, zero, suc, ◌+◌, ◌<◌, ◌≤◌, ◌⊎◌, Bool, true, false, max, List, [], ◌∷◌, ◌++◌, length, Some, slice_get}
use Rattle.std.specs.List.{Contains, AllPairs, fold}
use Rattle.circuit_theory.specs.Circuit.{IsLatch}
use Rattle.circuit_theory.specs.Run.{IsEnabled}
use Rattle.circuit_theory.specs.Depth.{IsDepth}
use Rattle.circuit_theory.specs.Cone.{latches_of}
use Rattle.circuit_theory.specs.Frame.{EventSide, HasCare, ConeOthers, IsEnable}

-- the frame has care for the latch's enable
abbrev pub EnableCare : {P : Type 0} → EventSide P → (ℕ → List ℕ → Bool) → P → Type 0
EnableCare s bits u = HasCare s (IsEnabled s.circuit) (ConeOthers s.circuit (IsEnabled s.circuit) u) bits

-- bit is the latch's enable at the root of the frame
abbrev pub EnableAtRoot : {P : Type 0} → EventSide P → (ℕ → List ℕ → Bool) → P → Bool → Type 0
EnableAtRoot s bits u bit = IsEnable s (IsEnabled s.circuit) bits u [] bit

-- the enables have one value at the root of each frame with care for both
abbrev pub EnablesEqual : {P : Type 0} → EventSide P → P → P → Type 0
EnablesEqual s u v = (bits : ℕ → List ℕ → Bool) (x y : Bool) → EnableCare s bits u → EnableCare s bits v → EnableAtRoot s bits u x → EnableAtRoot s bits v y → x ≡ y

-- a frame with care for both in which they differ
pub record EnablesDiffer {P : Type 0} (s : EventSide P) (u v : P) : Type 0 where
  pub bits : ℕ → List ℕ → Bool
  pub left : Bool
  pub right : Bool
  pub left_care : EnableCare s bits u
  pub right_care : EnableCare s bits v
  pub left_is : EnableAtRoot s bits u left
  pub right_is : EnableAtRoot s bits v right
  pub differ : left ≢ right

-- the enable is 1 at the root of each frame with care for it
abbrev pub AlwaysEnabled : {P : Type 0} → EventSide P → P → Type 0
AlwaysEnabled s u = (bits : ℕ → List ℕ → Bool) (x : Bool) → EnableCare s bits u → EnableAtRoot s bits u x → x ≡ true

-- a frame with care for it in which it is 0
pub record SometimesOff {P : Type 0} (s : EventSide P) (u : P) : Type 0 where
  pub bits : ℕ → List ℕ → Bool
  pub care : EnableCare s bits u
  pub off : EnableAtRoot s bits u false

-- the latch equals each member so far of the class, which for class 0 is `always`
abbrev pub EqualsMembers : {P : Type 0} → EventSide P → List P → ℕ → P → Type 0
EqualsMembers s before zero v = AlwaysEnabled s v
EqualsMembers {P} s before (suc k) v = (u : P) → Contains before u → s.class u ≡ suc k → EnablesEqual s u v

-- it differs from one of them
abbrev pub DiffersFromMember : {P : Type 0} → EventSide P → List P → ℕ → P → Type 0
DiffersFromMember s before zero v = SometimesOff s v
DiffersFromMember {P} s before (suc k) v = (u : P) × Contains before u × (s.class u ≡ suc k) × EnablesDiffer s u v

-- the number of classes besides 0 that these latches founded
abbrev pub classes_of : {P : Type 0} → EventSide P → List P → ℕ
classes_of s before = fold (λ n u. max n (s.class u)) 0 before

-- the latch is in the first class all of whose members so far equal it, or founds the next
pub record IsInFirstClass {P : Type 0} (s : EventSide P) (before : List P) (v : P) : Type 0 where
  pub not_past_next : s.class v ≤ classes_of s before + 1
  pub joins : s.class v ≤ classes_of s before → EqualsMembers s before (s.class v) v
  pub not_earlier : (k : ℕ) → k < s.class v → DiffersFromMember s before k v

-- plain latches are of class 0, and the enabled ones, in the order given, each in the first class that fits
pub record IsClassMap {P : Type 0} (s : EventSide P) (order : List P) : Type 0 where
  pub plain : (name : List ℕ) (u next : P) → IsLatch s.circuit name u next → (IsEnabled s.circuit u → ⊥) → s.class u ≡ 0
  pub each : (before after : List P) (v : P) → order ≡ before ++ v ∷ after → IsInFirstClass s before v

-- all enabled latches, by depth, then by place in the list of latches: of two circuits side by side A's come first
pub record IsLatchOrder {P : Type 0} (s : EventSide P) (order : List P) : Type 0 where
  pub all : (u : P) → IsEnabled s.circuit u → Contains order u
  pub enabled : (u : P) → Contains order u → IsEnabled s.circuit u
  pub in_order : AllPairs (λ u v. (d e i j : ℕ) → IsDepth s.circuit (IsEnabled s.circuit) u d → IsDepth s.circuit (IsEnabled s.circuit) v e →
      slice_get (latches_of s.circuit) i ≡ Some u → slice_get (latches_of s.circuit) j ≡ Some v → (d < e) ⊎ ((d ≡ e) × (i < j))) order

-- the class map of the circuit: each input has a number, and the enabled latches are taken in their order
pub record HasClasses {P : Type 0} (s : EventSide P) : Type 0 where
  pub numbered : length s.order ≡ length s.circuit.inputs
  pub order : List P
  pub is_order : IsLatchOrder s order
  pub is_map : IsClassMap s order

-- the first latch of the class
pub record IsFounder {P : Type 0} (s : EventSide P) (order : List P) (class : ℕ) (v : P) : Type 0 where
  pub before : List P
  pub after : List P
  pub split : order ≡ before ++ v ∷ after
  pub class_is : s.class v ≡ class
  pub first : (u : P) → Contains before u → s.class u ≢ class
