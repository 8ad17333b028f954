-- The next-state functions of one latch, over the inputs and the other latches of its cone.
use Rattle.std.specs.Prelude.{◌≡◌, ◌≢◌, ℕ, Bool, true, false, List, [], ◌∷◌, Option, Some, None, slice_get}
use Rattle.std.specs.List.{Contains, filter_map}
use Rattle.circuit_theory.specs.Cover.{Cover}
use Rattle.circuit_theory.specs.Circuit.{Circuit, Equation, Gate, Latch, Port}
use Rattle.circuit_theory.specs.Tree.{Tree, Trees, Leaf, Fixed, Branch, Nil, Cons}

-- a leaf's number counts the inputs, or the latches
pub data Source : Type 0 where
  AnInput : Source
  ALatch : Source

-- the place of a latch, where the equation is one
abbrev pub latch_place : {P : Type 0} → Equation P → Option P
latch_place (Gate out fanins cover) = None
latch_place (Latch name out next) = Some out
latch_place (Port out from) = None

-- the latches in the order of the list of equations
abbrev pub latches_of : {P : Type 0} → Circuit P → List P
latches_of c = filter_map latch_place c.equations

-- two kinds are one
abbrev pub same_source : Source → Source → Bool
same_source AnInput AnInput = true
same_source AnInput ALatch = false
same_source ALatch AnInput = false
same_source ALatch ALatch = true

-- the unfolding of p through gates and ports alone, where the latch u is read as a bit
mutual
  pub data ConeUnfolds {P : Type 0} (c : Circuit P) (u : P) (bit : Bool) : P → Tree Source → Type 0 where
    input : {name : List ℕ} {p : P} {i : ℕ} → slice_get c.inputs i ≡ Some (record { name = name; place = p }) → ConeUnfolds c u bit p (Leaf i AnInput)
    latch : {p : P} {j : ℕ} → slice_get (latches_of c) j ≡ Some p → p ≢ u → ConeUnfolds c u bit p (Leaf j ALatch)
    fixed : ConeUnfolds c u bit u (Fixed bit)
    gate : {out : P} {fanins : List P} {cover : Cover} {trees : Trees Source} → Contains c.equations (Gate out fanins cover) → ConeUnfoldsAll c u bit fanins trees → ConeUnfolds c u bit out (Branch cover trees)
    port : {out from : P} {tree : Tree Source} → Contains c.equations (Port out from) → ConeUnfolds c u bit from tree → ConeUnfolds c u bit out tree

  -- the same of each place of a list
  pub data ConeUnfoldsAll {P : Type 0} (c : Circuit P) (u : P) (bit : Bool) : List P → Trees Source → Type 0 where
    none : ConeUnfoldsAll c u bit [] Nil
    more : {p : P} {ps : List P} {tree : Tree Source} {trees : Trees Source} → ConeUnfolds c u bit p tree → ConeUnfoldsAll c u bit ps trees → ConeUnfoldsAll c u bit (p ∷ ps) (Cons tree trees)
