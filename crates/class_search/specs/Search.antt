-- Where an enable finds its class.
use Rattle.std.specs.Prelude.{◌≡◌, ℕ, List, length, slice_get, Option, Some, None, All}
use Rattle.pair_decide.specs.declared.query.Decision.TheVariants as answer
use Rattle.pair_decide.specs.declared.query.SameBy.{SameBy}
use Rattle.event_nodes.specs.Nodes.{EventGraphView}
use Rattle.class_search.specs.declared.compare.Enable.{Enable}
use Rattle.class_search.specs.Comparing.{IsReadyEnable, IsAlwaysComparison}
use Rattle.class_search.specs.declared.class.Class.{Class}
use Rattle.class_search.specs.declared.fitting.Unlike.{Unlike}
use Rattle.class_search.specs.declared.search.Fit.{Fit}
use Rattle.class_search.specs.declared.search.Fit.TheVariants as fit
use Rattle.class_search.specs.declared.search.Unfit.{Unfit}
use Rattle.class_search.specs.declared.search.Unfit.TheVariants as unfit
use Rattle.class_search.specs.declared.told.Difference.{Difference}
use Rattle.class_search.specs.declared.told.Told.{Told}
use Rattle.class_search.specs.Told.{IsAnswered, IsTold, HaveAgreed, IsAlwaysTold}

-- the enables of all members can be asked about
abbrev pub AreReadyClasses : EventGraphView → List Class → Type 0
AreReadyClasses w classes = All (λ c. All (IsReadyEnable w) c.enables.items) classes

-- what tells the latch from the first classes, one after the other
abbrev pub AreTold : EventGraphView → EventGraphView → List Class → Enable → ℕ → List Told → Type 0
AreTold v w classes latch conflicts told = (i : ℕ) (t : Told) → slice_get told i ≡ Some t → (c : Class) × (slice_get classes i ≡ Some c) × IsTold v w c.enables.items latch conflicts t

-- the members of the class behind those from which the latch was told all agree with it
abbrev pub HasFound : EventGraphView → EventGraphView → List Class → Enable → List Told → Type 0
HasFound v w classes latch told = (c : Class) × (slice_get classes (length told) ≡ Some c) × HaveAgreed v w c.enables.items latch

-- the first class that fits, or none, and what tells the latch from those before
abbrev pub IsFound : EventGraphView → EventGraphView → List Class → Enable → ℕ → List Told → Option ℕ → Type 0
IsFound v w classes latch conflicts told None = AreTold v w classes latch conflicts told × (length told ≡ length classes)
IsFound v w classes latch conflicts told (Some place) = AreTold v w classes latch conflicts told × (length told ≡ place) × HasFound v w classes latch told

-- the query with a member met the limit, where the latch was told from the classes before
abbrev pub IsStopped : EventGraphView → EventGraphView → List Class → Enable → ℕ → Unfit → Type 0
IsStopped v w classes latch conflicts (unfit.Always proof) = ⊥
IsStopped v w classes latch conflicts (unfit.Member place member proof) =
    (told : List Told) × AreTold v w classes latch conflicts told × (length told ≡ place)
    × ((c : Class) × (slice_get classes place ≡ Some c) × ((vars : List ℕ) × IsAnswered v w c.enables.items latch conflicts member (record { vars = vars; decision = answer.Limit proof })))
IsStopped v w classes latch conflicts unfit.NoMemory = Unit {0}

-- the query with the first member that isn't known to agree, one of the class at this place, met the limit
abbrev pub IsLimitOf : ℕ → Unlike → Unfit → Type 0
IsLimitOf place u (unfit.Always proof) = ⊥
IsLimitOf place u (unfit.Member at member proof) = (at ≡ place) × (member ≡ u.member) × (u.compared ≡ record { vars = u.compared.vars; decision = answer.Limit proof })
IsLimitOf place u unfit.NoMemory = ⊥

-- how the class was found
abbrev pub IsFit : EventGraphView → EventGraphView → List Class → Enable → ℕ → Fit → Type 0
IsFit v w classes latch conflicts fit.Always = (vars : List ℕ) × (by : SameBy) × IsAlwaysComparison v latch conflicts (record { vars = vars; decision = answer.Same by })
IsFit v w classes latch conflicts (fit.Joins place) =
    (always : Difference) × IsAlwaysTold v latch conflicts always × ((told : List Told) × AreTold v w classes latch conflicts told × (length told ≡ place) × HasFound v w classes latch told)
IsFit v w classes latch conflicts (fit.Founds always told) = IsAlwaysTold v latch conflicts always × AreTold v w classes latch conflicts told.items × (length told.items ≡ length classes)

-- why none was found
abbrev pub IsUnfit : EventGraphView → EventGraphView → List Class → Enable → ℕ → Unfit → Type 0
IsUnfit v w classes latch conflicts (unfit.Always proof) = (vars : List ℕ) × IsAlwaysComparison v latch conflicts (record { vars = vars; decision = answer.Limit proof })
IsUnfit v w classes latch conflicts (unfit.Member place member proof) =
    ((always : Difference) × IsAlwaysTold v latch conflicts always) × IsStopped v w classes latch conflicts (unfit.Member place member proof)
IsUnfit v w classes latch conflicts unfit.NoMemory = Unit {0}
