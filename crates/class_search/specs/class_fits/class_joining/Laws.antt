-- How a class map goes on, latch by latch. Each law is the contract of a function of this crate.
use Rattle.std.specs.Prelude.{◌≡◌, ℕ, suc, Bool, List, [], ◌∷◌, ◌++◌, map, slice_get, Some, All, Contains}
use Rattle.circuit_theory.specs.Depth.{LatchesHaveDepths}
use Rattle.circuit_theory.specs.Joined.{Either, Left, Right}
use Rattle.circuit_theory.specs.Run.{IsEnabled}
use Rattle.circuit_theory.specs.Frame.{EventSide}
use Rattle.circuit_theory.specs.Classes.{HasClasses, EqualsMembers, DiffersFromMember}
use Rattle.circuit_theory.specs.EventTotals.{IsMapSoFar}
use Rattle.circuit_laws.specs.event_laws.ClassSteps.{IsFirstFit}
use Rattle.flat_net.specs.declared.parts.LatchAt.{LatchAt}
use Rattle.flat_net.specs.Sound.{IsSound}
use Rattle.flat_net.specs.View.{circuit_of}
use Rattle.sec_base.specs.declared.basics.Tag.{Tag}
use Rattle.class_search.specs.event_order.Order.{place_of, IsTagOrder}
use Rattle.event_nodes.specs.Nodes.{EventGraphView, IsEventGraph, GrowsEvents}
use Rattle.event_nodes.specs.View.{EventCircuitView, IsEventCircuit}
use Rattle.aig.specs.Rules.{IsAndOf}
use Rattle.edbf_unfold.specs.class_queries.Enables.{both_of, IsEnableFunction, IsSame, Distinguishes}
use Rattle.edbf_unfold.specs.class_queries.Laws.{AreKept}
use Rattle.class_search.specs.class_fits.class_joining.Joining.{with_class, HasJoined, AreKnownEnables, AreMembers}

-- Where no cycle of latches is left in either circuit but self-edges of enabled latches, the latches of both have depths side by side.
abbrev pub BothHaveDepths : Type 0
BothHaveDepths = (a b : EventCircuitView) → IsSound a.net → IsSound b.net → LatchesHaveDepths (circuit_of a.net) (IsEnabled (circuit_of a.net)) → LatchesHaveDepths (circuit_of b.net) (IsEnabled (circuit_of b.net)) →
    LatchesHaveDepths (both_of a b).circuit (IsEnabled (both_of a b).circuit)

-- The class map begins where all latches are of class 0 and none is taken.
abbrev pub ClassMapBegins : Type 0
ClassMapBegins = (a b : EventCircuitView) (tags : List Tag) → IsSound a.net → IsSound b.net → LatchesHaveDepths (both_of a b).circuit (IsEnabled (both_of a b).circuit) → IsTagOrder a.net b.net tags →
    All (λ k. k ≡ 0) a.classes → All (λ k. k ≡ 0) b.classes → IsMapSoFar (both_of a b) [] (map (place_of a.net b.net) tags)

-- It is the class map of both circuits where all enabled latches are taken.
abbrev pub ClassMapEnds : Type 0
ClassMapEnds = (a b : EventCircuitView) → IsSound a.net → IsSound b.net → IsEventCircuit a → IsEventCircuit b → LatchesHaveDepths (both_of a b).circuit (IsEnabled (both_of a b).circuit) →
    (taken : List (Either ℕ ℕ)) → IsMapSoFar (both_of a b) taken [] → (c : HasClasses (both_of a b)) × (c.order ≡ taken)

-- The class map of two circuits goes on where the next latch, of the one or of the other, is given its first fit.
abbrev pub ClassIsGiven : Type 0
ClassIsGiven = (a b : EventCircuitView) → IsSound a.net → IsSound b.net → IsEventCircuit a → IsEventCircuit b → LatchesHaveDepths (both_of a b).circuit (IsEnabled (both_of a b).circuit) →
    (taken rest : List (Either ℕ ℕ)) (j class : ℕ) (l : LatchAt) →
    (slice_get a.net.latches j ≡ Some l → IsMapSoFar (both_of a b) taken (Left l.out.0 ∷ rest) → IsFirstFit (both_of a b) taken (Left l.out.0) class → HasJoined a b (with_class a j class) b taken rest (Left l.out.0) class)
    × (slice_get b.net.latches j ≡ Some l → IsMapSoFar (both_of a b) taken (Right l.out.0 ∷ rest) → IsFirstFit (both_of a b) taken (Right l.out.0) class → HasJoined a b a (with_class b j class) taken rest (Right l.out.0) class)

-- A class that the table has for a latch's literals is the first one that fits, whatever other members the classes have.
abbrev pub FoundClassFits : Type 0
FoundClassFits = (a b : EventCircuitView) (w : EventGraphView) (taken rest : List (Either ℕ ℕ)) (v : Either ℕ ℕ) (enable care class : ℕ) (table : List ((ℕ × ℕ) × ℕ)) → AreKept a b w → IsMapSoFar (both_of a b) taken rest →
    AreKnownEnables (both_of a b) w taken table → IsEnableFunction (both_of a b) w v enable care → Contains table ((enable, care), class) → IsFirstFit (both_of a b) taken v class

-- The table goes on to be right where the next latch has been given its class, also with that latch behind.
abbrev pub TableGoesOn : Type 0
TableGoesOn = (a b c d : EventCircuitView) (w : EventGraphView) (taken rest : List (Either ℕ ℕ)) (v : Either ℕ ℕ) (enable care class : ℕ) (table : List ((ℕ × ℕ) × ℕ)) → HasJoined a b c d taken rest v class → AreKnownEnables (both_of a b) w taken table →
    AreKnownEnables (both_of c d) w (taken ++ v ∷ []) table
    × (IsEnableFunction (both_of a b) w v enable care → AreKnownEnables (both_of c d) w (taken ++ v ∷ []) (table ++ ((enable, care), class) ∷ []))

-- The table stays right while the event graph grows.
abbrev pub TableGrows : Type 0
TableGrows = (s : EventSide (Either ℕ ℕ)) (w x : EventGraphView) (taken : List (Either ℕ ℕ)) (table : List ((ℕ × ℕ) × ℕ)) → IsEventGraph w → GrowsEvents w x → AreKnownEnables s w taken table → AreKnownEnables s x taken table

-- A latch whose enable no assignment tells apart from that of any of a class's members, wherever both have care, equals all latches of the class.
abbrev pub MembersAreEqual : Type 0
MembersAreEqual = (a b : EventCircuitView) (w : EventGraphView) (taken : List (Either ℕ ℕ)) (k : ℕ) (members : List (Either ℕ ℕ × (ℕ × ℕ))) (v : Either ℕ ℕ) (enable care : ℕ) → AreKept a b w → AreMembers (both_of a b) w taken (suc k) members →
    IsEnableFunction (both_of a b) w v enable care → ((m : Either ℕ ℕ × (ℕ × ℕ)) → Contains members m → (both : ℕ) × IsAndOf w.graph m.1.1 care both × IsSame w m.1.0 enable both) → EqualsMembers (both_of a b) taken (suc k) v

-- One whose enable is told apart from that of a member differs from a latch of the class.
abbrev pub MemberIsApart : Type 0
MemberIsApart = (a b : EventCircuitView) (w : EventGraphView) (taken : List (Either ℕ ℕ)) (k : ℕ) (members : List (Either ℕ ℕ × (ℕ × ℕ))) (v : Either ℕ ℕ) (enable care : ℕ) (m : Either ℕ ℕ × (ℕ × ℕ)) (both : ℕ) (x : ℕ → Bool) → AreKept a b w →
    AreMembers (both_of a b) w taken (suc k) members → IsEnableFunction (both_of a b) w v enable care → Contains members m → IsAndOf w.graph m.1.1 care both → Distinguishes w m.1.0 enable both x → DiffersFromMember (both_of a b) taken (suc k) v
