-- What the answers show of two circuits.
use Rattle.std.specs.Prelude.{◌≡◌, ◌≢◌, ℕ, ◌<◌, ◌≤◌, Bool, List, [], Some, slice_get}
use Rattle.std.specs.List.{Contains}
use Rattle.circuit_theory.specs.Agree.{cut, IsPair, AreAlike, LatchesEqual}
use Rattle.circuit_theory.specs.Circuit.{Circuit, Named, IsLatch}
use Rattle.circuit_theory.specs.Run.{IsRun}
use Rattle.witness_report.specs.declared.witness.PairName.{PairName}
use Rattle.witness_report.specs.declared.witness.PairName.TheVariants as pair
use Rattle.witness_report.specs.declared.stimulus.Stimulus.{Stimulus}
use Rattle.witness_report.specs.declared.witness.Witness.{Witness}

-- in each cycle of the sequence, each of the circuit's inputs that the sequence names has the printed bit
abbrev pub Obeys : {P : Type 0} → Circuit P → Stimulus → ℕ → (ℕ → P → Bool) → Type 0
Obeys {P} c stimulus n run =
    (t i : ℕ) (row : List Bool) (name : List ℕ) (bit : Bool) (p : P) → t < n →
    slice_get stimulus.rows t ≡ Some row → slice_get row i ≡ Some bit → slice_get stimulus.names i ≡ Some name →
    Contains c.inputs (record { name = name; place = p }) → run t p ≡ bit

-- in every two runs that obey the sequence, whatever they power up with, the named outputs have the printed values in
-- the printed cycle, and these differ
pub record MakesDiffer {P Q : Type 0} (a : Circuit P) (b : Circuit Q) (w : Witness) : Type 0 where
  pub name : List ℕ
  pub left_place : P
  pub right_place : Q
  pub named : w.pair ≡ pair.Output name
  pub left_output : Contains a.outputs (record { name = name; place = left_place })
  pub right_output : Contains b.outputs (record { name = name; place = right_place })
  pub differ : w.left ≢ w.right
  pub left_shows : (n : ℕ) (run : ℕ → P → Bool) → w.cycle < n → IsRun a n run → Obeys a w.stimulus n run → run w.cycle left_place ≡ w.left
  pub right_shows : (n : ℕ) (run : ℕ → Q → Bool) → w.cycle < n → IsRun b n run → Obeys b w.stimulus n run → run w.cycle right_place ≡ w.right

-- places of the pair of this name: outputs, or what the latches of an exposed name take over
abbrev pub ArePlacesOf : {P Q : Type 0} → Circuit P → Circuit Q → PairName → P → Q → Type 0
ArePlacesOf a b (pair.Output name) p q = Contains a.outputs (record { name = name; place = p }) × Contains b.outputs (record { name = name; place = q })
ArePlacesOf {P} {Q} a b (pair.Next name) p q = ((u : P) × IsLatch a name u p) × ((v : Q) × IsLatch b name v q)

-- In every two runs of the cut circuits that obey the sequence, whatever the other latches power up with, the pair has the printed
-- values in the printed cycle, and these differ. The sequence is over inputs and exposed latches.
pub record MakesCutsDiffer {P Q : Type 0} (names : List (List ℕ)) (a : Circuit P) (b : Circuit Q) (w : Witness) : Type 0 where
  pub left_place : P
  pub right_place : Q
  pub places : ArePlacesOf a b w.pair left_place right_place
  pub differ : w.left ≢ w.right
  pub left_shows : (n : ℕ) (run : ℕ → P → Bool) → w.cycle < n → IsRun (cut names a) n run → Obeys (cut names a) w.stimulus n run → run w.cycle left_place ≡ w.left
  pub right_shows : (n : ℕ) (run : ℕ → Q → Bool) → w.cycle < n → IsRun (cut names b) n run → Obeys (cut names b) w.stimulus n run → run w.cycle right_place ≡ w.right

-- In any two runs with equal inputs in which the latches of these names are equal up to a cycle, they are equal for ever, and each
-- output is equal from that cycle on.
abbrev pub AgreeFrom : {P Q : Type 0} → ℕ → List (List ℕ) → Circuit P → Circuit Q → Type 0
AgreeFrom {P} {Q} from names a b =
    (n : ℕ) (left : ℕ → P → Bool) (right : ℕ → Q → Bool) → AreAlike a b n left right → from < n → LatchesEqual names a b left right (λ t. t ≤ from) →
    LatchesEqual names a b left right (λ t. t < n) × ((t : ℕ) (p : P) (q : Q) → from ≤ t → t < n → IsPair [] a b p q → left t p ≡ right t q)
