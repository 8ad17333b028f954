-- Agreement of two circuits in the runs that meet an assumption. Of two runs with equal inputs both meet it where one does.
use Rattle.std.specs.Prelude.{◌≡◌, ◌≢◌, ℕ, ◌<◌, ◌≤◌, Bool, List, [], length}
use Rattle.std.specs.List.{Contains}
use Rattle.circuit_theory.specs.declared.Mode.{Mode}
use Rattle.circuit_theory.specs.declared.Mode.TheVariants.{Plain}
use Rattle.circuit_theory.specs.Agree.{cut, IsPair, IsSettled, AreAlike, LatchesEqual}
use Rattle.circuit_theory.specs.Circuit.{Circuit}
use Rattle.circuit_theory.specs.Cone.{latches_of}
use Rattle.circuit_theory.specs.Run.{IsRun, IsResetRun}
use Rattle.circuit_laws.specs.reset_laws.Reset.{AreAlikeFromReset, TakesPower}
use Rattle.witness_report.specs.declared.witness.PairName.TheVariants as pair
use Rattle.witness_report.specs.Shown.{Obeys}
use Rattle.obligations.specs.declared.outcome.verdict.Outcome.{Outcome}
use Rattle.obligations.specs.declared.outcome.verdict.ResetWitness.{ResetWitness}
use Rattle.pair_texts.specs.assume_texts.Meets.{RunMeetsCircuit}

-- each output is equal in every cycle in which it is settled in both
abbrev pub AgreeWhereMet : {P Q R : Type 0} → Mode → Circuit R → Circuit P → Circuit Q → Type 0
AgreeWhereMet {P} {Q} {R} mode c a b =
    (n : ℕ) (left : ℕ → P → Bool) (right : ℕ → Q → Bool) → AreAlike a b n left right → RunMeetsCircuit c a n left →
    (t : ℕ) (p : P) (q : Q) → t < n → IsPair [] a b p q → IsSettled mode a left t p → IsSettled mode b right t q → left t p ≡ right t q

-- from a cycle on in which all pairs are settled, and up to which the exposed latches are equal, these and the outputs are equal for ever
abbrev pub AgreeOnwardWhereMet : {P Q R : Type 0} → Mode → List (List ℕ) → Circuit R → Circuit P → Circuit Q → Type 0
AgreeOnwardWhereMet {P} {Q} {R} mode names c a b =
    (n : ℕ) (left : ℕ → P → Bool) (right : ℕ → Q → Bool) → AreAlike a b n left right → RunMeetsCircuit c a n left →
    (T : ℕ) → T < n →
    ((p : P) (q : Q) → IsPair names a b p q → IsSettled mode (cut names a) left T p × IsSettled mode (cut names b) right T q) →
    LatchesEqual names a b left right (λ t. t ≤ T) →
    LatchesEqual names a b left right (λ t. t < n)
    × ((t : ℕ) (p : P) (q : Q) → T ≤ t → t < n → IsPair [] a b p q → left t p ≡ right t q)

-- where the exposed latches are equal up to this cycle, these and the outputs are equal for ever
abbrev pub AgreeFromWhereMet : {P Q R : Type 0} → ℕ → List (List ℕ) → Circuit R → Circuit P → Circuit Q → Type 0
AgreeFromWhereMet {P} {Q} {R} from names c a b =
    (n : ℕ) (left : ℕ → P → Bool) (right : ℕ → Q → Bool) → AreAlike a b n left right → RunMeetsCircuit c a n left → from < n → LatchesEqual names a b left right (λ t. t ≤ from) →
    LatchesEqual names a b left right (λ t. t < n) × ((t : ℕ) (p : P) (q : Q) → from ≤ t → t < n → IsPair [] a b p q → left t p ≡ right t q)

-- all three in the plain mode, over the exposed latches and from the cycle that the outcome has
pub record AreEqualWhereMet {P Q R : Type 0} (c : Circuit R) (a : Circuit P) (b : Circuit Q) (o : Outcome) : Type 0 where
  pub agree : AgreeWhereMet Plain c a b
  pub onward : AgreeOnwardWhereMet Plain o.exposed c a b
  pub from : AgreeFromWhereMet o.through o.exposed c a b

-- in runs that begin with the initial values each output is equal in every cycle
abbrev pub AgreeFromResetWhereMet : {P Q R : Type 0} → Circuit R → Circuit P → Circuit Q → Type 0
AgreeFromResetWhereMet {P} {Q} {R} c a b =
    (n : ℕ) (left : ℕ → P → Bool) (right : ℕ → Q → Bool) → AreAlikeFromReset a b n left right → RunMeetsCircuit c a n left →
    (t : ℕ) (p : P) (q : Q) → t < n → IsPair [] a b p q → left t p ≡ right t q

-- What different says from the latches' initial values: runs that power up as is printed begin with the initial values, and every two of
-- them that obey the sequence have the printed values of the named outputs in the printed cycle, which differ. In no two runs with equal
-- inputs that begin with the initial values and meet the assumption do these outputs differ in an earlier cycle.
pub record MakesResetsDifferWhereMet {P Q R : Type 0} (c : Circuit R) (a : Circuit P) (b : Circuit Q) (w : ResetWitness) : Type 0 where
  pub name : List ℕ
  pub left_place : P
  pub right_place : Q
  pub named : w.witness.pair ≡ pair.Output name
  pub left_output : Contains a.outputs (record { name = name; place = left_place })
  pub right_output : Contains b.outputs (record { name = name; place = right_place })
  pub differ : w.witness.left ≢ w.witness.right
  pub left_each : length w.left_power ≡ length (latches_of a)
  pub right_each : length w.right_power ≡ length (latches_of b)
  pub left_begins : (n : ℕ) (run : ℕ → P → Bool) → IsRun a n run → TakesPower a w.left_power run → IsResetRun a n run
  pub right_begins : (n : ℕ) (run : ℕ → Q → Bool) → IsRun b n run → TakesPower b w.right_power run → IsResetRun b n run
  pub left_shows : (n : ℕ) (run : ℕ → P → Bool) → w.witness.cycle < n → IsRun a n run → TakesPower a w.left_power run → Obeys a w.witness.stimulus n run → run w.witness.cycle left_place ≡ w.witness.left
  pub right_shows : (n : ℕ) (run : ℕ → Q → Bool) → w.witness.cycle < n → IsRun b n run → TakesPower b w.right_power run → Obeys b w.witness.stimulus n run → run w.witness.cycle right_place ≡ w.witness.right
  pub earlier : (n : ℕ) (left : ℕ → P → Bool) (right : ℕ → Q → Bool) → AreAlikeFromReset a b n left right → RunMeetsCircuit c a n left → (t : ℕ) → t < n → t < w.witness.cycle → left t left_place ≡ right t right_place
