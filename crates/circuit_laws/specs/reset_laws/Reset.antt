-- The reset form: the value of a signal in a cycle, where runs begin with the latches' initial values.
use Rattle.std.specs.Prelude.{◌≡◌, ◌≢◌, ℕ, suc, ◌+◌, ◌-◌, ◌<◌, ◌≤◌, ◌==◌, ◌⊎◌, Bool, false, if◌then◌else◌, List, [], ◌∷◌, length, Option, Some, None, slice_get, slice_index_or}
use Rattle.std.specs.List.{All, Contains}
use Rattle.circuit_theory.specs.Cover.{Cover}
use Rattle.circuit_theory.specs.Circuit.{Circuit, Started, Gate, Port, IsLatch}
use Rattle.circuit_theory.specs.Cone.{latches_of}
use Rattle.circuit_theory.specs.Run.{IsRun, EqualInputs, IsResetRun}
use Rattle.circuit_theory.specs.Asked.{AskedPair, AreEqual}
use Rattle.circuit_theory.specs.Tree.{Tree, Trees, Leaf, Fixed, Branch, Nil, Cons, IsInputNumber, tree_value}
use Rattle.circuit_theory.specs.Query.{Variable, AreVariables, Distinguishes, IsLeast, assigned, same_shift, bits_of, pair_query}
use Rattle.circuit_theory.specs.Sequence.{sequence_rows, row_value, TakesInputs}
use Rattle.circuit_theory.specs.Agree.{IsPair}
use Rattle.circuit_theory.specs.Fits.{IsPairDepth}

-- the place has no initial value 0 or 1
abbrev pub IsFree : {P : Type 0} → Circuit P → P → Type 0
IsFree c u = (bit : Bool) → Contains c.starts (record { place = u; bit = bit }) → ⊥

-- The unfolding of a place in a cycle, down to cycle 0. A leaf is an input's number with the cycle; a latch without an initial value
-- has in cycle 0 a variable of its own, whose number is base plus the latch's place among the latches.
mutual
  pub data ResetUnfolds {P : Type 0} (c : Circuit P) (order : List ℕ) (base : ℕ) : P → ℕ → Tree ℕ → Type 0 where
    input : {p : P} {t i : ℕ} → IsInputNumber c order p i → ResetUnfolds c order base p t (Leaf i t)
    gate : {out : P} {fanins : List P} {cover : Cover} {t : ℕ} {trees : Trees ℕ} → Contains c.equations (Gate out fanins cover) → ResetUnfoldsAll c order base fanins t trees →
        ResetUnfolds c order base out t (Branch cover trees)
    port : {out from : P} {t : ℕ} {tree : Tree ℕ} → Contains c.equations (Port out from) → ResetUnfolds c order base from t tree → ResetUnfolds c order base out t tree
    later : {name : List ℕ} {out next : P} {t : ℕ} {tree : Tree ℕ} → IsLatch c name out next → ResetUnfolds c order base next t tree → ResetUnfolds c order base out (suc t) tree
    started : {name : List ℕ} {out next : P} {bit : Bool} → IsLatch c name out next → Contains c.starts (record { place = out; bit = bit }) → ResetUnfolds c order base out 0 (Fixed bit)
    free : {out : P} (j : ℕ) → slice_get (latches_of c) j ≡ Some out → IsFree c out → ResetUnfolds c order base out 0 (Leaf (base + j) 0)

  -- the same of each fan-in
  pub data ResetUnfoldsAll {P : Type 0} (c : Circuit P) (order : List ℕ) (base : ℕ) : List P → ℕ → Trees ℕ → Type 0 where
    none : {t : ℕ} → ResetUnfoldsAll c order base [] t Nil
    more : {p : P} {ps : List P} {t : ℕ} {tree : Tree ℕ} {trees : Trees ℕ} → ResetUnfolds c order base p t tree → ResetUnfoldsAll c order base ps t trees →
        ResetUnfoldsAll c order base (p ∷ ps) t (Cons tree trees)

-- no place has two initial values
abbrev pub HasOneStart : {P : Type 0} → Circuit P → Type 0
HasOneStart {P} c = (u : P) (x y : Bool) → Contains c.starts (record { place = u; bit = x }) → Contains c.starts (record { place = u; bit = y }) → x ≡ y

-- initial values are those of latches, one of each at most
pub record HasStarts {P : Type 0} (c : Circuit P) : Type 0 where
  pub of_latches : (u : P) (bit : Bool) → Contains c.starts (record { place = u; bit = bit }) → (name : List ℕ) × (next : P) × IsLatch c name u next
  pub once : HasOneStart c

-- the variables of latches have numbers of their own: A's above all inputs, and B's above A's
pub record AreBased {P Q : Type 0} (a : Circuit P) (b : Circuit Q) (left right : List ℕ) (left_base right_base : ℕ) : Type 0 where
  pub left_inputs : (p : P) (i : ℕ) → IsInputNumber a left p i → i < left_base
  pub right_inputs : (q : Q) (i : ℕ) → IsInputNumber b right q i → i < left_base
  pub latches : left_base + length (latches_of a) ≤ right_base

-- variables go by lesser cycle, then by number
abbrev pub CycleBefore : Variable ℕ → Variable ℕ → Type 0
CycleBefore x y = (x.at < y.at) ⊎ ((x.at ≡ y.at) × (x.input < y.input))

-- a pair of the reset form as it is asked in a cycle: the variables are those of both sides, and the care holds always
abbrev pub reset_pair : {P Q : Type 0} → Circuit P → Circuit Q → List ℕ → List ℕ → ℕ → ℕ → P → Q → ℕ → AskedPair ℕ
reset_pair a b left right left_base right_base p q t = record {
  before = CycleBefore;
  left = ResetUnfolds a left left_base p t;
  right = ResetUnfolds b right right_base q t;
  wanted = λ l r. Contains (l ∷ r ∷ []);
  care = λ l r bits. Unit {0};
}

-- both sides of a pair unfold in the cycle, to functions that agree under each assignment
abbrev pub HaveEqualResets : {P Q : Type 0} → Circuit P → Circuit Q → List ℕ → List ℕ → ℕ → ℕ → P → Q → ℕ → Type 0
HaveEqualResets a b left right left_base right_base p q t = AreEqual (reset_pair a b left right left_base right_base p q t)

-- they do in each cycle up to the pair's depth
pub record AreEqualFromReset {P Q : Type 0} (a : Circuit P) (b : Circuit Q) (left right : List ℕ) (left_base right_base : ℕ) (p : P) (q : Q) : Type 0 where
  pub depth : ℕ
  pub is_depth : IsPairDepth a b p q depth
  pub each : (t : ℕ) → t ≤ depth → HaveEqualResets a b left right left_base right_base p q t

-- two reset runs of n cycles with equal inputs
pub record AreAlikeFromReset {P Q : Type 0} (a : Circuit P) (b : Circuit Q) (n : ℕ) (left : ℕ → P → Bool) (right : ℕ → Q → Bool) : Type 0 where
  pub left_run : IsResetRun a n left
  pub right_run : IsResetRun b n right
  pub equal_inputs : EqualInputs a b n left right

-- in any two reset runs with equal inputs each output has equal values in every cycle
abbrev pub AgreeFromReset : {P Q : Type 0} → Circuit P → Circuit Q → Type 0
AgreeFromReset {P} {Q} a b =
    (n : ℕ) (left : ℕ → P → Bool) (right : ℕ → Q → Bool) → AreAlikeFromReset a b n left right → (t : ℕ) (p : P) (q : Q) → t < n → IsPair [] a b p q → left t p ≡ right t q

-- The sequence of an assignment: in each cycle from 0 to last the bits of that cycle.
abbrev pub reset_rows : ℕ → (ℕ → ℕ → Bool) → ℕ → List (List Bool)
reset_rows last x count = sequence_rows last (λ i k. x i (last - k)) count

-- the initial value of a place, if any
abbrev pub start_at : List (Started ℕ) → ℕ → Option Bool
start_at [] u = None
start_at (s ∷ starts) u = if s.place == u then Some s.bit else start_at starts u

-- the initial value, or else the variable's bit
abbrev pub power_of : Option Bool → Bool → Bool
power_of None bit = bit
power_of (Some start) bit = start

-- the power-up of these latches, whose variables have the numbers from one on
abbrev pub powers_from : List (Started ℕ) → (ℕ → ℕ → Bool) → ℕ → List ℕ → List Bool
powers_from starts x number [] = []
powers_from starts x number (u ∷ us) = power_of (start_at starts u) (x number 0) ∷ powers_from starts x (suc number) us

-- the power-up of an assignment, a bit for each latch
abbrev pub powers : Circuit ℕ → ℕ → (ℕ → ℕ → Bool) → List Bool
powers c base x = powers_from c.starts x base (latches_of c)

-- each latch has its bit in cycle 0
abbrev pub TakesPower : {P : Type 0} → Circuit P → List Bool → (ℕ → P → Bool) → Type 0
TakesPower {P} c power run = (j : ℕ) (u : P) → slice_get (latches_of c) j ≡ Some u → run 0 u ≡ slice_index_or power j false

-- The rows and the power-up of both sides make the pair differ: runs that begin so are reset runs, and in any two of them over the rows
-- the two places have these values in the last cycle, and they differ.
pub record MakesDifferFromReset {P Q : Type 0} (a : Circuit P) (b : Circuit Q) (left right : List ℕ) (p : P) (q : Q) (rows : List (List Bool)) (left_power right_power : List Bool) (last : ℕ) (l r : Bool) : Type 0 where
  pub cycles : length rows ≡ last + 1
  pub left_each : length left_power ≡ length (latches_of a)
  pub right_each : length right_power ≡ length (latches_of b)
  pub left_reset : (n : ℕ) (run : ℕ → P → Bool) → IsRun a n run → TakesPower a left_power run → IsResetRun a n run
  pub right_reset : (n : ℕ) (run : ℕ → Q → Bool) → IsRun b n run → TakesPower b right_power run → IsResetRun b n run
  pub left_is : (n : ℕ) (run : ℕ → P → Bool) → IsRun a n run → TakesPower a left_power run → last < n → TakesInputs a left (row_value rows) (last + 1) run → run last p ≡ l
  pub right_is : (n : ℕ) (run : ℕ → Q → Bool) → IsRun b n run → TakesPower b right_power run → last < n → TakesInputs b right (row_value rows) (last + 1) run → run last q ≡ r
  pub differ : l ≢ r

-- What stands behind the sequence and the power-up that are printed for a pair: an assignment of the variables of both trees of the
-- last cycle makes the functions differ, up to 16 variables the least one, and the rows and both power-ups are its own.
pub record IsResetWitness (a b : Circuit ℕ) (left right : List ℕ) (left_base right_base p q count : ℕ) (rows : List (List Bool)) (left_power right_power : List Bool) (last : ℕ) (l r : Bool) : Type 0 where
  pub left_tree : Tree ℕ
  pub right_tree : Tree ℕ
  pub left_unfolds : ResetUnfolds a left left_base p last left_tree
  pub right_unfolds : ResetUnfolds b right right_base q last right_tree
  pub variables : List (Variable ℕ)
  pub are_variables : AreVariables CycleBefore (left_tree ∷ right_tree ∷ []) variables
  pub inputs : All (λ x. (x.input < count) ⊎ (left_base ≤ x.input)) variables
  pub bits : List Bool
  pub each : length bits ≡ length variables
  pub distinguishes : Distinguishes (pair_query left_tree right_tree) (assigned same_shift variables bits)
  pub least : length variables ≤ 16 → (number : ℕ) × (bits ≡ bits_of number (length variables)) × IsLeast same_shift (pair_query left_tree right_tree) variables number
  pub rows_are : rows ≡ reset_rows last (assigned same_shift variables bits) count
  pub left_power_is : left_power ≡ powers a left_base (assigned same_shift variables bits)
  pub right_power_is : right_power ≡ powers b right_base (assigned same_shift variables bits)
  pub left_value : l ≡ tree_value (assigned same_shift variables bits) left_tree
  pub right_value : r ≡ tree_value (assigned same_shift variables bits) right_tree
