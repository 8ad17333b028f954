-- What stays of a class map where the next latch is given its class, and what two circuits have side by side. Each law is the contract of a function of this crate.
use Rattle.std.specs.Prelude.{◌≡◌, ◌≢◌, ◌⊎◌, ◌↔◌, ℕ, ◌<◌, Bool, List, [], ◌∷◌, ◌++◌, length, Option, Contains}
use Rattle.circuit_theory.specs.Circuit.{Circuit}
use Rattle.circuit_theory.specs.Depth.{LatchesHaveDepths}
use Rattle.circuit_theory.specs.Joined.{Either, Left, Right, joined}
use Rattle.circuit_theory.specs.Net.{IsNet}
use Rattle.circuit_theory.specs.Query.{Variable}
use Rattle.circuit_theory.specs.Run.{IsEnabled}
use Rattle.circuit_theory.specs.EventFits.{side_by_side}
use Rattle.circuit_theory.specs.EventFrames.{AreNodeVariables, IsClassTree, IsSeparation, IsSeparationFromAlways}
use Rattle.circuit_theory.specs.EventSizes.{Start, EventVisits}
use Rattle.circuit_theory.specs.EventTotals.{IsMapSoFar, StartLatches}
use Rattle.circuit_theory.specs.Frame.{EventSide, IsNode}
use Rattle.circuit_laws.specs.reset_laws.class_extension.Sides.{AreStartsOfBoth, IsEnableAmong}
use Rattle.circuit_laws.specs.reset_laws.class_extension.Telling.{TellsApart, TellsFromAlways}

-- a class map as far as it goes, and another one that differs from it in the class of the next latch at most
pub record IsNextGiven (a b : Circuit ℕ) (m n : ℕ) (left right : List ℕ) (f g : Either ℕ ℕ → ℕ) (taken rest : List (Either ℕ ℕ)) (v : Either ℕ ℕ) : Type 0 where
  pub left_net : IsNet a m
  pub right_net : IsNet b n
  pub depths : LatchesHaveDepths (joined a b) (IsEnabled (joined a b))
  pub map : IsMapSoFar (side_by_side a b left right f) taken (v ∷ rest)
  pub others : (u : Either ℕ ℕ) → u ≢ v → f u ≡ g u

-- The variables of the enables of latches that were taken, and of the next one, stay so whatever class the next one is given.
abbrev pub VariablesStay : Type 0
VariablesStay = (a b : Circuit ℕ) (m n : ℕ) (left right : List ℕ) (f g : Either ℕ ℕ → ℕ) (taken rest : List (Either ℕ ℕ)) (v : Either ℕ ℕ) → IsNextGiven a b m n left right f g taken rest v → (u w : Either ℕ ℕ) (variables : List (Variable (List ℕ))) →
    Contains (taken ++ v ∷ []) u → Contains (taken ++ v ∷ []) w → AreNodeVariables (IsClassTree (side_by_side a b left right f) u w) variables → AreNodeVariables (IsClassTree (side_by_side a b left right g) u w) variables

-- Separations stay so whatever class the next latch is given.
abbrev pub SeparationsStay : Type 0
SeparationsStay = (a b : Circuit ℕ) (m n : ℕ) (left right : List ℕ) (f g : Either ℕ ℕ → ℕ) (taken rest : List (Either ℕ ℕ)) (v : Either ℕ ℕ) → IsNextGiven a b m n left right f g taken rest v → (variables : List (Variable (List ℕ))) (bits : List Bool) →
    ((low high : ℕ) (u w : Either ℕ ℕ) (l r : Bool) → IsSeparation (side_by_side a b left right f) taken low high u w variables bits l r → IsSeparation (side_by_side a b left right g) (taken ++ v ∷ []) low high u w variables bits l r)
    × ((high : ℕ) (w : Either ℕ ℕ) → IsSeparationFromAlways (side_by_side a b left right f) taken high w variables bits → IsSeparationFromAlways (side_by_side a b left right g) (taken ++ v ∷ []) high w variables bits)

-- Where the next latch founds a class, what tells it from a member of another class, or from `always`, is the separation of the two.
abbrev pub SeparationsBegin : Type 0
SeparationsBegin = (a b : Circuit ℕ) (m n : ℕ) (left right : List ℕ) (f g : Either ℕ ℕ → ℕ) (taken rest : List (Either ℕ ℕ)) (v : Either ℕ ℕ) → IsNextGiven a b m n left right f g taken rest v → ((u : Either ℕ ℕ) → Contains taken u → f u < g v) → (variables : List (Variable (List ℕ))) (bits : List Bool) →
    ((low : ℕ) (u : Either ℕ ℕ) (l r : Bool) → TellsApart (side_by_side a b left right f) taken low u v variables bits l r → IsSeparation (side_by_side a b left right g) (taken ++ v ∷ []) low (g v) u v variables bits l r)
    × (0 < g v → TellsFromAlways (side_by_side a b left right f) v variables bits → IsSeparationFromAlways (side_by_side a b left right g) (taken ++ v ∷ []) (g v) v variables bits)

-- a circuit by itself as the event form sees it, with the classes of both
abbrev pub left_side : Circuit ℕ → List ℕ → (Either ℕ ℕ → ℕ) → EventSide ℕ
left_side a left f = record { circuit = a; order = left; class = λ p. f (Left p) }

abbrev pub right_side : Circuit ℕ → List ℕ → (Either ℕ ℕ → ℕ) → EventSide ℕ
right_side b right f = record { circuit = b; order = right; class = λ q. f (Right q) }

-- the same is visited and reached from the starts
pub record UnfoldAlike (s t : EventSide ℕ) (starts : List (Start ℕ)) : Type 0 where
  pub visits : (out : Option ℕ) (q : ℕ) (node : List ℕ) → EventVisits s (IsEnabled s.circuit) starts out q node ↔ EventVisits t (IsEnabled t.circuit) starts out q node
  pub nodes : (node : List ℕ) → IsNode s (IsEnabled s.circuit) (StartLatches s starts) node ↔ IsNode t (IsEnabled t.circuit) (StartLatches t starts) node

-- What the enables of latches that were taken, and of the next one, visit and reach stays so whatever class the next one is given.
abbrev pub VisitsStay : Type 0
VisitsStay = (a b : Circuit ℕ) (m n : ℕ) (left right : List ℕ) (f g : Either ℕ ℕ → ℕ) (taken rest : List (Either ℕ ℕ)) (v : Either ℕ ℕ) → IsNextGiven a b m n left right f g taken rest v → (starts : List (Start ℕ)) →
    (((x : Start ℕ) → Contains starts x → IsEnableAmong a Left (taken ++ v ∷ []) x) → UnfoldAlike (left_side a left f) (left_side a left g) starts)
    × (((x : Start ℕ) → Contains starts x → IsEnableAmong b Right (taken ++ v ∷ []) x) → UnfoldAlike (right_side b right f) (right_side b right g) starts)

-- Side by side an enable has the variables that it has in its circuit.
abbrev pub SidesHaveVariables : Type 0
SidesHaveVariables = (a b : Circuit ℕ) (m n : ℕ) (left right : List ℕ) (f : Either ℕ ℕ → ℕ) → IsNet a m → IsNet b n → length left ≡ length a.inputs → (u : ℕ) (variables : List (Variable (List ℕ))) →
    (AreNodeVariables (IsClassTree (left_side a left f) u u) variables → AreNodeVariables (IsClassTree (side_by_side a b left right f) (Left u) (Left u)) variables)
    × (AreNodeVariables (IsClassTree (right_side b right f) u u) variables → AreNodeVariables (IsClassTree (side_by_side a b left right f) (Right u) (Right u)) variables)

-- Side by side two circuits reach the event nodes that either reaches by itself.
abbrev pub SidesReachNodes : Type 0
SidesReachNodes = (a b : Circuit ℕ) (m n : ℕ) (left right : List ℕ) (f : Either ℕ ℕ → ℕ) → IsNet a m → IsNet b n → (starts : List (Start (Either ℕ ℕ))) (lefts rights : List (Start ℕ)) → AreStartsOfBoth starts lefts rights → (node : List ℕ) →
    IsNode (side_by_side a b left right f) (IsEnabled (joined a b)) (StartLatches (side_by_side a b left right f) starts) node
    ↔ (IsNode (left_side a left f) (IsEnabled a) (StartLatches (left_side a left f) lefts) node ⊎ IsNode (right_side b right f) (IsEnabled b) (StartLatches (right_side b right f) rights) node)
