-- The unfolding of a signal as a plain tree, and its value. In the plain form this is the clocked Boolean function of
-- Ranjan, Singhal, Somenzi and Brayton (DATE 1999).
use Rattle.std.specs.Prelude.{◌≡◌, ℕ, suc, max, ◌⊎◌, Bool, List, [], ◌∷◌}
use Rattle.std.specs.List.{Contains}
use Rattle.circuit_theory.specs.Cover.{Cover, cover_value}
use Rattle.circuit_theory.specs.Circuit.{Circuit, Gate, Port, Named, IsLatch}

-- A leaf is an input's number with a place: a shift in the plain form, a path of classes in the event form.
mutual
  pub data Tree (L : Type 0) : Type 0 where
    Leaf : (input : ℕ) (at : L) → Tree L
    Fixed : (bit : Bool) → Tree L
    Branch : (cover : Cover) (subtrees : Trees L) → Tree L

  -- the subtrees in the order of the fan-ins
  pub data Trees (L : Type 0) : Type 0 where
    Nil : Trees L
    Cons : (first : Tree L) (rest : Trees L) → Trees L

-- the value where each variable has the assignment's bit
unfoldable mutual
  pub tree_value : {L : Type 0} → (ℕ → L → Bool) → Tree L → Bool
  tree_value a (Leaf input at) = a input at
  tree_value a (Fixed bit) = bit
  tree_value a (Branch cover subtrees) = cover_value cover (tree_values a subtrees)

  pub tree_values : {L : Type 0} → (ℕ → L → Bool) → Trees L → List Bool
  tree_values a Nil = []
  tree_values a (Cons first rest) = tree_value a first ∷ tree_values a rest

-- an input at p stands in the list beside the number i
abbrev pub StandsBeside : {P : Type 0} → List (Named P) → List ℕ → P → ℕ → Type 0
StandsBeside [] order p i = ⊥
StandsBeside (input ∷ inputs) [] p i = ⊥
StandsBeside (input ∷ inputs) (j ∷ order) p i = ((input.place ≡ p) × (j ≡ i)) ⊎ StandsBeside inputs order p i

-- p is the input whose number is i, where order has the numbers of the inputs
abbrev pub IsInputNumber : {P : Type 0} → Circuit P → List ℕ → P → ℕ → Type 0
IsInputNumber c order p i = StandsBeside c.inputs order p i

-- The plain unfolding of p, k cycles ago. d is the greatest number of latches on a way down.
mutual
  pub data Unfolds {P : Type 0} (c : Circuit P) (order : List ℕ) : P → ℕ → ℕ → Tree ℕ → Type 0 where
    input : {p : P} {k i : ℕ} → IsInputNumber c order p i → Unfolds c order p k 0 (Leaf i k)
    gate : {out : P} {fanins : List P} {cover : Cover} {k d : ℕ} {trees : Trees ℕ} → Contains c.equations (Gate out fanins cover) → UnfoldsAll c order fanins k d trees → Unfolds c order out k d (Branch cover trees)
    port : {out from : P} {k d : ℕ} {tree : Tree ℕ} → Contains c.equations (Port out from) → Unfolds c order from k d tree → Unfolds c order out k d tree
    latch : {name : List ℕ} {out next : P} {k d : ℕ} {tree : Tree ℕ} → IsLatch c name out next → Unfolds c order next (suc k) d tree → Unfolds c order out k (suc d) tree

  -- the same of each fan-in; the depth is the greatest
  pub data UnfoldsAll {P : Type 0} (c : Circuit P) (order : List ℕ) : List P → ℕ → ℕ → Trees ℕ → Type 0 where
    none : {k : ℕ} → UnfoldsAll c order [] k 0 Nil
    more : {p : P} {ps : List P} {k d e : ℕ} {tree : Tree ℕ} {trees : Trees ℕ} → Unfolds c order p k d tree → UnfoldsAll c order ps k e trees → UnfoldsAll c order (p ∷ ps) k (max d e) (Cons tree trees)

-- Within a circuit each number is one input's; an input of A and one of B have one number only where they have one name.
pub record AreNumbered {P Q : Type 0} (a : Circuit P) (b : Circuit Q) (left right : List ℕ) : Type 0 where
  pub left_once : (p p' : P) (i : ℕ) → IsInputNumber a left p i → IsInputNumber a left p' i → p ≡ p'
  pub right_once : (q q' : Q) (i : ℕ) → IsInputNumber b right q i → IsInputNumber b right q' i → q ≡ q'
  pub shared : (p : P) (q : Q) (i : ℕ) → IsInputNumber a left p i → IsInputNumber b right q i →
      (name : List ℕ) × Contains a.inputs (record { name = name; place = p }) × Contains b.inputs (record { name = name; place = q })
