-- Cuts, pairs, and what it means that two circuits agree.
use Rattle.std.specs.Prelude.{◌≡◌, ℕ, ◌<◌, ◌≤◌, ◌⊎◌, Bool, true, not, if◌then◌else◌, List, [], ◌∷◌, ◌++◌, length, Option, Some, None}
use Rattle.std.specs.List.{Contains, filter, filter_map}
use Rattle.circuit_theory.specs.declared.Mode.{Mode}
use Rattle.circuit_theory.specs.declared.Mode.TheVariants.{Plain, Event}
use Rattle.circuit_theory.specs.Names.{same_name, is_among}
use Rattle.circuit_theory.specs.Circuit.{Circuit, Equation, Gate, Latch, Port, Named, IsLatch}
use Rattle.circuit_theory.specs.Depth.{HasCycle, without}
use Rattle.circuit_theory.specs.Run.{IsRun, EqualInputs, IsEnabled, Marked}

-- the first latch of the name: its place and what it takes over
abbrev pub latch_named : {P : Type 0} → List (Equation P) → List ℕ → Option (P × P)
latch_named [] name = None
latch_named (Gate out fanins cover ∷ es) name = latch_named es name
latch_named (Latch own out next ∷ es) name = if same_name own name then Some (out, next) else latch_named es name
latch_named (Port out from ∷ es) name = latch_named es name

-- the equation stays where the latches of these names are cut out
abbrev pub is_kept : {P : Type 0} → List (List ℕ) → Equation P → Bool
is_kept names (Gate out fanins cover) = true
is_kept names (Latch name out next) = not (is_among names name)
is_kept names (Port out from) = true

-- the place, if any, under the name
abbrev pub named_at : {P : Type 0} → List ℕ → Option P → Option (Named P)
named_at name None = None
named_at name (Some p) = Some (record { name = name; place = p })

-- the latch's own place
abbrev pub first_of_pair : {P : Type 0} → Option (P × P) → Option P
first_of_pair None = None
first_of_pair (Some x) = Some x.0

-- what the latch takes over
abbrev pub second_of_pair : {P : Type 0} → Option (P × P) → Option P
second_of_pair None = None
second_of_pair (Some x) = Some x.1

-- The cut circuit: each exposed latch becomes an input, and what it takes over an output of its name. Initial values
-- stay as they are; no run of a cut circuit looks at them.
unfoldable pub cut : {P : Type 0} → List (List ℕ) → Circuit P → Circuit P
cut names c = record {
  inputs = c.inputs ++ filter_map (λ name. named_at name (first_of_pair (latch_named c.equations name))) names;
  outputs = c.outputs ++ filter_map (λ name. named_at name (second_of_pair (latch_named c.equations name))) names;
  equations = filter (is_kept names) c.equations;
  starts = c.starts;
}

-- What is compared: two outputs of one name, or what the two latches of an exposed name take over.
pub data IsPair {P Q : Type 0} (names : List (List ℕ)) (a : Circuit P) (b : Circuit Q) : P → Q → Type 0 where
  outputs : {name : List ℕ} {p : P} {q : Q} → Contains a.outputs (record { name = name; place = p }) → Contains b.outputs (record { name = name; place = q }) → IsPair names a b p q
  nexts : {name : List ℕ} {u p : P} {v q : Q} → Contains names name → IsLatch a name u p → IsLatch b name v q → IsPair names a b p q

-- one pair: a place of A and a place of B
pub record PairAt (P Q : Type 0) : Type 0 where
  pub left : P
  pub right : Q

-- the place of the first of the name
abbrev pub place_named : {P : Type 0} → List (Named P) → List ℕ → Option P
place_named [] name = None
place_named (n ∷ ns) name = if same_name n.name name then Some n.place else place_named ns name

-- the pair of two places that are there
abbrev pub pair_at : {P Q : Type 0} → Option P → Option Q → Option (PairAt P Q)
pair_at None q = None
pair_at (Some p) None = None
pair_at (Some p) (Some q) = Some (record { left = p; right = q })

-- The pairs in their order: the outputs in A's order, then what the latches of the exposed names take over. A and B are
-- not cut, so an output and an exposed latch of one name stay apart.
abbrev pub pairs_of : {P Q : Type 0} → List (List ℕ) → Circuit P → Circuit Q → List (PairAt P Q)
pairs_of names a b =
    filter_map (λ n. pair_at (Some n.place) (place_named b.outputs n.name)) a.outputs
    ++ filter_map (λ name. pair_at (second_of_pair (latch_named a.equations name)) (second_of_pair (latch_named b.equations name))) names

-- in the plain mode no latch counts as enabled
abbrev pub EnabledIn : {P : Type 0} → Mode → Circuit P → P → Type 0
EnabledIn Plain c u = ⊥
EnabledIn Event c u = IsEnabled c u

-- a place is settled in a cycle of a run where it is marked, over the enabled latches of the mode
abbrev pub IsSettled : {P : Type 0} → Mode → Circuit P → (ℕ → P → Bool) → ℕ → P → Type 0
IsSettled mode c run t p = Marked c (EnabledIn mode c) run t p

-- two runs of n cycles with equal inputs
pub record AreAlike {P Q : Type 0} (a : Circuit P) (b : Circuit Q) (n : ℕ) (left : ℕ → P → Bool) (right : ℕ → Q → Bool) : Type 0 where
  pub left_run : IsRun a n left
  pub right_run : IsRun b n right
  pub equal_inputs : EqualInputs a b n left right

-- in any two runs with equal inputs each output has equal values in every cycle in which it is settled in both
abbrev pub Agree : {P Q : Type 0} → Mode → Circuit P → Circuit Q → Type 0
Agree {P} {Q} mode a b =
    (n : ℕ) (left : ℕ → P → Bool) (right : ℕ → Q → Bool) → AreAlike a b n left right →
    (t : ℕ) (p : P) (q : Q) → t < n → IsPair [] a b p q → IsSettled mode a left t p → IsSettled mode b right t q → left t p ≡ right t q

-- the latches of these names have equal values in the cycles that are wanted
abbrev pub LatchesEqual : {P Q : Type 0} → List (List ℕ) → Circuit P → Circuit Q → (ℕ → P → Bool) → (ℕ → Q → Bool) → (ℕ → Type 0) → Type 0
LatchesEqual {P} {Q} names a b left right wanted =
    (name : List ℕ) (u p : P) (v q : Q) (t : ℕ) → Contains names name → IsLatch a name u p → IsLatch b name v q → wanted t → left t u ≡ right t v

-- Agreement onward: where all pairs are settled in the cut circuits in cycle T, and the exposed latches are equal up to T,
-- they are equal for ever, and the outputs from T on.
abbrev pub AgreeOnward : {P Q : Type 0} → Mode → List (List ℕ) → Circuit P → Circuit Q → Type 0
AgreeOnward {P} {Q} mode names a b =
    (n : ℕ) (left : ℕ → P → Bool) (right : ℕ → Q → Bool) → AreAlike a b n left right →
    (T : ℕ) → T < n →
    ((p : P) (q : Q) → IsPair names a b p q → IsSettled mode (cut names a) left T p × IsSettled mode (cut names b) right T q) →
    LatchesEqual names a b left right (λ t. t ≤ T) →
    LatchesEqual names a b left right (λ t. t < n)
    × ((t : ℕ) (p : P) (q : Q) → T ≤ t → t < n → IsPair [] a b p q → left t p ≡ right t q)

-- a minimal cut (a minimal common feedback vertex set): each name is one of latches of both circuits; without them no cycle
-- is left, and each of them is needed
pub record IsMinimalCut {P Q : Type 0} (mode : Mode) (a : Circuit P) (b : Circuit Q) (names : List (List ℕ)) : Type 0 where
  pub common : (name : List ℕ) → Contains names name → ((u p : P) × (v q : Q) × IsLatch a name u p × IsLatch b name v q)
  pub left_free : HasCycle a (EnabledIn mode a) names → ⊥
  pub right_free : HasCycle b (EnabledIn mode b) names → ⊥
  pub needed : (i : ℕ) → i < length names → HasCycle a (EnabledIn mode a) (without names i) ⊎ HasCycle b (EnabledIn mode b) (without names i)
