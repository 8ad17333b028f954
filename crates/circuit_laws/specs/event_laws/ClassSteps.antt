-- How a class map is made, latch by latch.
use Rattle.std.specs.Prelude.{◌≡◌, ◌≢◌, ℕ, ◌+◌, ◌<◌, ◌≤◌, Bool, List, [], ◌∷◌, ◌++◌, length, Contains}
use Rattle.circuit_theory.specs.Circuit.{Circuit, IsLatch}
use Rattle.circuit_theory.specs.Run.{IsEnabled}
use Rattle.circuit_theory.specs.Net.{IsNet}
use Rattle.circuit_theory.specs.Depth.{LatchesHaveDepths}
use Rattle.circuit_theory.specs.Joined.{Either, joined}
use Rattle.circuit_theory.specs.Frame.{EventSide}
use Rattle.circuit_theory.specs.Classes.{EnableCare, EnableAtRoot, EqualsMembers, DiffersFromMember, classes_of, IsLatchOrder, HasClasses}
use Rattle.circuit_theory.specs.EventFits.{side_by_side}
use Rattle.circuit_theory.specs.EventTotals.{IsMapSoFar}

-- the class is the first one all of whose members so far equal the latch, or the next one, whatever class the latch itself has there
pub record IsFirstFit {P : Type 0} (s : EventSide P) (before : List P) (v : P) (class : ℕ) : Type 0 where
  pub not_past_next : class ≤ classes_of s before + 1
  pub joins : class ≤ classes_of s before → EqualsMembers s before class v
  pub not_earlier : (k : ℕ) → k < class → DiffersFromMember s before k v

-- the enables of the two latches have care in the same frames, and one value in each of these
pub record HaveTwinEnables {P : Type 0} (s : EventSide P) (v w : P) : Type 0 where
  pub care_to : (bits : ℕ → List ℕ → Bool) → EnableCare s bits v → EnableCare s bits w
  pub care_back : (bits : ℕ → List ℕ → Bool) → EnableCare s bits w → EnableCare s bits v
  pub to : (bits : ℕ → List ℕ → Bool) (x : Bool) → EnableCare s bits v → EnableAtRoot s bits v x → EnableAtRoot s bits w x
  pub back : (bits : ℕ → List ℕ → Bool) (x : Bool) → EnableCare s bits w → EnableAtRoot s bits w x → EnableAtRoot s bits v x

-- A class map begins where no latch is taken and the plain ones are of class 0. It goes on where the next latch is given its first fit
-- and all other classes stay. It is the class map where all latches are taken.
abbrev pub ClassMapGoesOn : Type 0
ClassMapGoesOn = (a b : Circuit ℕ) (m n : ℕ) (left right : List ℕ) (f : Either ℕ ℕ → ℕ) → IsNet a m → IsNet b n → LatchesHaveDepths (joined a b) (IsEnabled (joined a b)) →
    ((order : List (Either ℕ ℕ)) → IsLatchOrder (side_by_side a b left right f) order → ((name : List ℕ) (u next : Either ℕ ℕ) → IsLatch (joined a b) name u next → (IsEnabled (joined a b) u → ⊥) → f u ≡ 0) → IsMapSoFar (side_by_side a b left right f) [] order)
    × ((g : Either ℕ ℕ → ℕ) (taken rest : List (Either ℕ ℕ)) (v : Either ℕ ℕ) → IsMapSoFar (side_by_side a b left right f) taken (v ∷ rest) → IsFirstFit (side_by_side a b left right f) taken v (g v) →
    ((u : Either ℕ ℕ) → u ≢ v → f u ≡ g u) → IsMapSoFar (side_by_side a b left right g) (taken ++ v ∷ []) rest)
    × ((taken : List (Either ℕ ℕ)) → IsMapSoFar (side_by_side a b left right f) taken [] → length (left ++ right) ≡ length (joined a b).inputs → (c : HasClasses (side_by_side a b left right f)) × (c.order ≡ taken))

-- A latch whose enable and care are those of one that was taken before has its class as first fit, whatever other members there are.
abbrev pub TwinsFitOneClass : Type 0
TwinsFitOneClass = (a b : Circuit ℕ) (m n : ℕ) (left right : List ℕ) (f : Either ℕ ℕ → ℕ) → IsNet a m → IsNet b n → length left ≡ length a.inputs → (taken rest : List (Either ℕ ℕ)) (v w : Either ℕ ℕ) →
    IsMapSoFar (side_by_side a b left right f) taken rest → Contains taken w → HaveTwinEnables (side_by_side a b left right f) v w → IsFirstFit (side_by_side a b left right f) taken v (f w)
