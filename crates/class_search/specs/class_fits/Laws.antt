-- What the search for an enable's class gives. Each law is the contract of a function of this crate.
use Rattle.std.specs.Prelude.{◌≡◌, ℕ, List, [], ◌∷◌, ◌++◌, length, slice_get, Some}
use Rattle.circuit_theory.specs.Joined.{Either}
use Rattle.circuit_theory.specs.Frame.{EventSide}
use Rattle.circuit_theory.specs.Classes.{classes_of}
use Rattle.circuit_theory.specs.EventTotals.{IsAsked}
use Rattle.circuit_laws.specs.event_laws.ClassSteps.{IsFirstFit}
use Rattle.sec_base.specs.declared.basics.Tag.{Tag}
use Rattle.class_search.specs.pair_decide.Proof.{Proof}
use Rattle.class_search.specs.pair_decide.Query.{Query}
use Rattle.class_search.specs.pair_decide.Answers.{IsAtLimit}
use Rattle.event_nodes.specs.Nodes.{EventGraphView, IsEventGraph, GrowsEvents}
use Rattle.event_nodes.specs.View.{EventCircuitView}
use Rattle.class_search.specs.declared.compare.Enable.{Enable}
use Rattle.edbf_unfold.specs.class_queries.Enables.{both_of, IsEnableFunction, AsksEnables}
use Rattle.edbf_unfold.specs.class_queries.Laws.{AreKept}
use Rattle.class_search.specs.class_fits.class_joining.Joining.{HasJoined}
use Rattle.class_search.specs.declared.class.Class.{Class}
use Rattle.class_search.specs.declared.search.Fit.{Fit}
use Rattle.class_search.specs.declared.search.Unfit.TheVariants as unfit
use Rattle.class_search.specs.Search.{IsFit, IsUnfit}
use Rattle.class_search.specs.class_fits.Members.{HasMembers, HaveMembers, IsAmong, class_of_fit}

-- The class that the search finds for a latch is its first fit.
abbrev pub FitIsFirst : Type 0
FitIsFirst = (a b : EventCircuitView) (v w : EventGraphView) (place : Tag → Either ℕ ℕ) (taken : List (Either ℕ ℕ)) (u : Either ℕ ℕ) (classes : List Class) (latch : Enable) (conflicts : ℕ) (f : Fit) → AreKept a b v →
    classes_of (both_of a b) taken ≡ length classes → HaveMembers (both_of a b) v place taken classes → IsEnableFunction (both_of a b) v u latch.value.0 latch.care.0 → IsFit v w classes latch conflicts f →
    IsFirstFit (both_of a b) taken u (class_of_fit classes f)

-- Where the query with `always` meets the limit, it was that of the latch's enable and care.
abbrev pub AlwaysLimitIsAsked : Type 0
AlwaysLimitIsAsked = (a b : EventCircuitView) (v w : EventGraphView) (u : Either ℕ ℕ) (classes : List Class) (latch : Enable) (conflicts : ℕ) → IsEnableFunction (both_of a b) v u latch.value.0 latch.care.0 → (proof : Proof) → IsUnfit v w classes latch conflicts (unfit.Always proof) →
    (q : Query) × IsEnableFunction (both_of a b) v u q.left.0 q.care.0 × (q.right.0 ≡ 1) × IsAtLimit v.graph q conflicts proof

-- Where a query with a member meets the limit, the latch was asked about that member in its turn, and the query was that of both enables.
abbrev pub LimitIsAsked : Type 0
LimitIsAsked = (a b : EventCircuitView) (v w : EventGraphView) (place : Tag → Either ℕ ℕ) (taken : List (Either ℕ ℕ)) (u : Either ℕ ℕ) (classes : List Class) (latch : Enable) (conflicts : ℕ) → AreKept a b v →
    HaveMembers (both_of a b) v place taken classes → IsEnableFunction (both_of a b) v u latch.value.0 latch.care.0 → (at member : ℕ) (proof : Proof) → IsUnfit v w classes latch conflicts (unfit.Member at member proof) →
    (c : Class) × (slice_get classes at ≡ Some c) × ((t : Tag) × (slice_get c.tags.items member ≡ Some t) × IsAsked (both_of a b) taken u (Some (place t))
    × ((x : EventGraphView) × (q : Query) × AsksEnables (both_of a b) x (place t) u q.left.0 q.right.0 q.care.0 × IsAtLimit x.graph q conflicts proof))

-- The members of a class stay so while the event graph grows.
abbrev pub MembersGrow : Type 0
MembersGrow = (s : EventSide (Either ℕ ℕ)) (v w : EventGraphView) (place : Tag → Either ℕ ℕ) (taken : List (Either ℕ ℕ)) (class : ℕ) (c : Class) → IsEventGraph v → GrowsEvents v w → HasMembers s v place taken class c → HasMembers s w place taken class c

-- They stay so where the next latch joins another class, or this one with the literals of a member.
abbrev pub MembersStay : Type 0
MembersStay = (a b c d : EventCircuitView) (w : EventGraphView) (place : Tag → Either ℕ ℕ) (taken rest : List (Either ℕ ℕ)) (u : Either ℕ ℕ) (class k : ℕ) (m : Class) → HasJoined a b c d taken rest u k → HasMembers (both_of a b) w place taken class m →
    (k ≡ class → IsAmong (both_of a b) w m.enables.items (length m.enables.items) u) → HasMembers (both_of c d) w place (taken ++ u ∷ []) class m

-- They go on where it joins this one.
abbrev pub MembersJoin : Type 0
MembersJoin = (a b c d : EventCircuitView) (w : EventGraphView) (place : Tag → Either ℕ ℕ) (taken rest : List (Either ℕ ℕ)) (t : Tag) (x : Enable) (class : ℕ) (m n : Class) → HasJoined a b c d taken rest (place t) class → HasMembers (both_of a b) w place taken class m →
    IsEnableFunction (both_of a b) w (place t) x.value.0 x.care.0 → n.tags.items ≡ m.tags.items ++ t ∷ [] → n.enables.items ≡ m.enables.items ++ x ∷ [] → HasMembers (both_of c d) w place (taken ++ place t ∷ []) class n
