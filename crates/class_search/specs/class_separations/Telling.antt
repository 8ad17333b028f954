-- What is kept of the answers that tell a latch from the classes before.
use Rattle.std.specs.Prelude.{◌≡◌, ◌≢◌, ℕ, ◌*◌, ◌<◌, ◌≤◌, true, false, not, List, [], ◌∷◌, ◌++◌, length, slice_get, Some, None}
use Rattle.std.specs.List.{AllPairs}
use Rattle.aig.specs.Values.{value}
use Rattle.aig.specs.lane_eval.Tables.{Covers}
use Rattle.sec_base.specs.declared.basics.Tag.{Tag}
use Rattle.pair_decide.specs.Queries.{assigned_to}
use Rattle.event_nodes.specs.Nodes.{EventGraphView}
use Rattle.class_search.specs.declared.compare.Enable.{Enable}
use Rattle.class_search.specs.declared.class.Class.{Class}
use Rattle.class_search.specs.declared.told.Difference.{Difference}
use Rattle.class_search.specs.declared.told.Told.{Told}
use Rattle.class_search.specs.declared.class_separations.apart.Apart.{Apart}

-- the member is one of the class, and its enable has a value under the assignment
pub record IsToldIn (w : EventGraphView) (c : Class) (t : Told) : Type 0 where
  pub tag : Tag
  pub enable : Enable
  pub tag_at : slice_get c.tags.items t.member ≡ Some tag
  pub enable_at : slice_get c.enables.items t.member ≡ Some enable
  pub within : enable.value.0 < 2 * length w.graph
  pub each : length t.difference.bits ≡ length t.difference.vars
  pub distinct : AllPairs (λ u v. u ≢ v) t.difference.vars
  pub covers : Covers w.graph (enable.value.0 ∷ []) t.difference.vars

-- the latch is told from the first classes, one after the other
pub record AreToldIn (w : EventGraphView) (classes : List Class) (told : List Told) : Type 0 where
  pub few : length told ≤ length classes
  pub each : (k : ℕ) (c : Class) (t : Told) → slice_get classes k ≡ Some c → slice_get told k ≡ Some t → IsToldIn w c t

-- what tells the latch from `always`
abbrev pub always_apart : Tag → Difference → Apart
always_apart latch d = record { low = None; high = latch; left = true; right = false; vars = d.vars; bits = d.bits }

-- what tells the latch from a member of the class: the value of the member's enable under the assignment, and the other value
pub record IsApartOf (w : EventGraphView) (c : Class) (latch : Tag) (t : Told) (x : Apart) : Type 0 where
  pub tag : Tag
  pub enable : Enable
  pub tag_at : slice_get c.tags.items t.member ≡ Some tag
  pub enable_at : slice_get c.enables.items t.member ≡ Some enable
  pub low : x.low ≡ Some tag
  pub high : x.high ≡ latch
  pub vars : x.vars ≡ t.difference.vars
  pub bits : x.bits ≡ t.difference.bits
  pub left : x.left ≡ value w.graph (assigned_to t.difference.vars t.difference.bits) enable.value.0
  pub right : x.right ≡ not x.left

-- what tells the latch from the first classes stands behind the others
pub record HasKeptTo (w : EventGraphView) (classes : List Class) (latch : Tag) (told : List Told) (count : ℕ) (old new : List Apart) : Type 0 where
  pub more : List Apart
  pub is : new ≡ old ++ more
  pub long : length more ≡ count
  pub each : (k : ℕ) (c : Class) (t : Told) (x : Apart) → slice_get classes k ≡ Some c → slice_get told k ≡ Some t → slice_get more k ≡ Some x → IsApartOf w c latch t x

-- and before that what tells it from `always`
abbrev pub HasKept : EventGraphView → List Class → Tag → Difference → List Told → List Apart → List Apart → Type 0
HasKept w classes latch always told old new = HasKeptTo w classes latch told (length told) (old ++ always_apart latch always ∷ []) new
