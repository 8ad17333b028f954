-- Class maps that are being made.
use Rattle.std.specs.Prelude.{◌≡◌, ℕ, ◌*◌, ◌<◌, ◌≤◌, List, [], ◌∷◌, ◌++◌, length, map, take, drop, slice_get, Some, Contains}
use Rattle.circuit_theory.specs.declared.Side.{Side}
use Rattle.circuit_theory.specs.declared.Side.TheVariants.{A, B}
use Rattle.circuit_theory.specs.Depth.{LatchesHaveDepths}
use Rattle.circuit_theory.specs.Joined.{Either}
use Rattle.circuit_theory.specs.Run.{IsEnabled}
use Rattle.circuit_theory.specs.Classes.{HasClasses}
use Rattle.circuit_laws.specs.event_laws.ClassSteps.{IsFirstFit}
use Rattle.flat_net.specs.declared.parts.LatchAt.{LatchAt}
use Rattle.sec_base.specs.declared.basics.Tag.{Tag}
use Rattle.aig.specs.declared.node.Node.TheVariants.{Constant}
use Rattle.event_nodes.specs.Nodes.{EventGraphView, named_places}
use Rattle.event_nodes.specs.Graph.{flip}
use Rattle.event_nodes.specs.Builds.{Builds}
use Rattle.aig.specs.graph_copy.aig_or.ShortOr.{IsShortOr}
use Rattle.event_nodes.specs.View.{EventCircuitView}
use Rattle.event_nodes.specs.Visited.{IsWeighed}
use Rattle.class_search.specs.event_order.Order.{place_of}
use Rattle.event_classes.specs.event_functions.class_totals.EnableFunctions.{IsEnableFunctionOf}
use Rattle.class_search.specs.declared.compare.Enable.{Enable}
use Rattle.edbf_unfold.specs.class_queries.Enables.{both_of, IsEnableFunction}
use Rattle.class_search.specs.class_fits.class_joining.Joining.{with_class}
use Rattle.event_classes.specs.declared.map.ClassMap.{ClassMap}
use Rattle.circuit_theory.specs.EventFrames.{AreNodeVariables, IsClassTree}
use Rattle.circuit_theory.specs.Frame.{EventSide}
use Rattle.event_nodes.specs.event_variables.Variables.{variables_of}
use Rattle.class_search.specs.declared.search.Fit.{Fit}
use Rattle.class_search.specs.declared.search.Fit.TheVariants as fit
use Rattle.class_search.specs.declared.told.Difference.{Difference}
use Rattle.class_search.specs.declared.told.Told.{Told}
use Rattle.class_search.specs.class_separations.Apart.{AreToldApart, AreToldOf}
use Rattle.class_search.specs.class_separations.Telling.{AreToldIn}
use Rattle.event_classes.specs.event_functions.class_totals.Totals.{HaveCounted, AreWithin}
use Rattle.event_classes.specs.Named.{AreNamed}
use Rattle.event_classes.specs.Limits.{EnableTrees}
use Rattle.class_search.specs.declared.class.Class.{Class}
use Rattle.class_search.specs.class_fits.Stand.{IsStand}

-- all that was counted is within its numbers
pub record IsWithin (m : ClassMap) : Type 0 where
  pub left : IsWeighed m.left.net m.left_count
  pub right : IsWeighed m.right.net m.right_count
  pub nodes : length m.events.children < 10000
  pub classes : length m.classes.items ≤ 500

-- the latch of a tag, as a place of both circuits
abbrev pub places_in : ClassMap → Tag → Either ℕ ℕ
places_in m = place_of m.left.net m.right.net

-- the latches that were taken
abbrev pub taken_of : ClassMap → List (Either ℕ ℕ)
taken_of m = map (places_in m) m.taken.items

-- the literal is that of the trees of the latch's enable: the function with the latch at 0, or not that with it at 1
pub record HasEnableLit (s : EventSide (Either ℕ ℕ)) (w : EventGraphView) (u : Either ℕ ℕ) (lit : ℕ) : Type 0 where
  pub trees : EnableTrees s u
  pub f0 : ℕ
  pub f1 : ℕ
  pub low : Builds w.graph (named_places w) trees.low f0
  pub high : Builds w.graph (named_places w) trees.high f1
  pub low_within : f0 < 2 * length w.graph
  pub high_within : f1 < 2 * length w.graph
  pub or_is : IsShortOr w.graph f0 (flip f1) lit

-- so are those of the members
abbrev pub HaveEnableLits : EventSide (Either ℕ ℕ) → EventGraphView → (Tag → Either ℕ ℕ) → List Class → Type 0
HaveEnableLits s w place classes =
    (k i : ℕ) (c : Class) (t : Tag) (x : Enable) → slice_get classes k ≡ Some c → slice_get c.tags.items i ≡ Some t → slice_get c.enables.items i ≡ Some x → HasEnableLit s w (place t) x.value.0

-- the class map is right as far as it goes, and these latches are left
pub record IsMade (m : ClassMap) (rest : List (Either ℕ ℕ)) : Type 0 where
  pub stand : IsStand m.left m.right m.events (places_in m) (taken_of m) rest m.table m.classes.items
  pub depths : LatchesHaveDepths (both_of m.left m.right).circuit (IsEnabled (both_of m.left m.right).circuit)
  pub within : IsWithin m
  pub told : AreToldApart m.left m.right m.events (places_in m) (taken_of m) m.classes.items m.aparts.items
  pub named : AreNamed m.left.net m.right.net m.classes.items m.aparts.items
  pub lits : HaveEnableLits (both_of m.left m.right) m.events (places_in m) m.classes.items

-- it is the enable of the latch with this position
abbrev pub IsEnableOf : EventCircuitView → EventGraphView → ℕ → Enable → Type 0
IsEnableOf e w j x = (l : LatchAt) → slice_get e.net.latches j ≡ Some l → IsEnableFunctionOf e w l (record { value = x.value; care = x.care; vars = x.vars })

-- the same of a latch of this circuit of the two
abbrev pub IsEnableOn : Side → ClassMap → ℕ → Enable → Type 0
IsEnableOn A m j x = IsEnableOf m.left m.events j x
IsEnableOn B m j x = IsEnableOf m.right m.events j x

-- it is the enable of the latch, of both circuits side by side
abbrev pub IsEnableAt : ClassMap → Tag → Enable → Type 0
IsEnableAt m tag x = IsEnabled (both_of m.left m.right).circuit (places_in m tag) → IsEnableFunction (both_of m.left m.right) m.events (places_in m tag) x.value.0 x.care.0

-- its literal is that of the enable's trees, and its variables are those of the enable
abbrev pub IsOwnAt : ClassMap → Tag → Enable → Type 0
IsOwnAt m tag x =
    IsEnabled (both_of m.left m.right).circuit (places_in m tag) →
    AreNodeVariables (IsClassTree (both_of m.left m.right) (places_in m tag) (places_in m tag)) (variables_of m.events x.vars) × HasEnableLit (both_of m.left m.right) m.events (places_in m tag) x.value.0

-- no earlier latch has its literals
abbrev pub IsAbsent : ClassMap → Enable → Type 0
IsAbsent m x = Contains (map (λ e. e.0) m.table) (x.value.0, x.care.0) → ⊥

-- the class is the latch's first fit
abbrev pub FitsIn : ClassMap → Tag → ℕ → Type 0
FitsIn m tag class = (rest : List (Either ℕ ℕ)) → IsMade m (places_in m tag ∷ rest) → IsFirstFit (both_of m.left m.right) (taken_of m) (places_in m tag) class

-- what tells the latch from `always` and from each class
abbrev pub AreToldAt : ClassMap → Tag → Difference → List Told → Type 0
AreToldAt m tag always told =
    AreToldIn m.events m.classes.items told
    × ((rest : List (Either ℕ ℕ)) → IsMade m (places_in m tag ∷ rest) → AreToldOf (both_of m.left m.right) m.events (places_in m) (taken_of m) (places_in m tag) m.classes.items always told)

-- the same, where it founds a class
abbrev pub AreToldBy : ClassMap → Tag → Fit → Type 0
AreToldBy m tag fit.Always = Unit {0}
AreToldBy m tag (fit.Joins place) = Unit {0}
AreToldBy m tag (fit.Founds always told) = AreToldAt m tag always told.items

-- the latch was given the class
abbrev pub IsSetOn : Side → EventCircuitView → EventCircuitView → EventCircuitView → EventCircuitView → ℕ → ℕ → Type 0
IsSetOn A a b c d j class = (c ≡ with_class a j class) × (d ≡ b)
IsSetOn B a b c d j class = (c ≡ a) × (d ≡ with_class b j class)

abbrev pub IsClassSet : EventCircuitView → EventCircuitView → EventCircuitView → EventCircuitView → Tag → ℕ → Type 0
IsClassSet a b c d tag class = IsSetOn tag.side a b c d tag.latch class

-- the enables of these latches are counted
abbrev pub Counts : ClassMap → List (Either ℕ ℕ) → Type 0
Counts m latches = HaveCounted m.left m.right m.events.children latches m.left_count m.right_count

-- the latches that were taken, and the next one
abbrev pub with_next : ClassMap → Tag → List (Either ℕ ℕ)
with_next m tag = taken_of m ++ places_in m tag ∷ []

-- The class map goes on with the latch, where the enables of these latches are counted.
pub record GoesOn (m n : ClassMap) (tag : Tag) (counted : List (Either ℕ ℕ)) : Type 0 where
  pub left : n.left ≡ record m.left { classes = n.left.classes }
  pub right : n.right ≡ record m.right { classes = n.right.classes }
  pub taken : n.taken.items ≡ m.taken.items ++ tag ∷ []
  pub made : (rest : List (Either ℕ ℕ)) → IsMade m (places_in m tag ∷ rest) → IsMade n rest
  pub counts : (rest : List (Either ℕ ℕ)) → IsMade m (places_in m tag ∷ rest) → Counts m counted → Counts n (taken_of n)

-- the enable of the next latch is counted too
abbrev pub CountsOn : ClassMap → ClassMap → Tag → Type 0
CountsOn m n tag = Counts m (taken_of m) → Counts n (with_next n tag)

-- no latch is taken
pub record IsBegun (a b : EventCircuitView) (m : ClassMap) : Type 0 where
  pub left : m.left ≡ a
  pub right : m.right ≡ b
  pub events : m.events ≡ record { graph = Constant ∷ []; children = []; places = [] }
  pub left_count : m.left_count ≡ record { places = []; weight = 0 }
  pub right_count : m.right_count ≡ record { places = []; weight = 0 }
  pub table : m.table ≡ []
  pub classes : m.classes.items ≡ []
  pub aparts : m.aparts.items ≡ []
  pub taken : m.taken.items ≡ []

-- the first of these latches have their classes
pub record IsMadeTo (m n : ClassMap) (tags : List Tag) (at : ℕ) : Type 0 where
  pub left : n.left ≡ record m.left { classes = n.left.classes }
  pub right : n.right ≡ record m.right { classes = n.right.classes }
  pub taken : n.taken.items ≡ take at tags
  pub made : IsMade n (map (places_in n) (drop at tags))
  pub counts : Counts n (taken_of n)

-- The class map of the two circuits: of all enabled latches, in their order.
pub record IsClassMapOf (a b : EventCircuitView) (m : ClassMap) : Type 0 where
  pub left : m.left ≡ record a { classes = m.left.classes }
  pub right : m.right ≡ record b { classes = m.right.classes }
  pub classes : HasClasses (both_of m.left m.right)
  pub order : classes.order ≡ taken_of m
  pub made : IsMade m []
  pub counts : Counts m (taken_of m)
  pub within : AreWithin m.left m.right (taken_of m)
  pub few : length m.taken.items ≤ 30000
