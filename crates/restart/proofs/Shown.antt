-- What is known of an output in the last row is so in every run that obeys the rows.
use mathlib.Core.Bool.{beq}
use Rattle.std.proofs.Common.{◌≡◌, ℕ, ◌-◌, ◌<◌, Bool, true, false, List, length, slice_get, sym, subst, arith, Option, Some}
use Rattle.std.specs.List.{All, Contains}
use Rattle.circuit_theory.specs.Circuit.{Circuit}
use Rattle.circuit_theory.specs.Run.{IsRun}
use Rattle.flat_net.specs.View.{NetView, circuit_of}
use Rattle.circuit_laws.specs.start_laws.Known.{IsKnown}
use Rattle.circuit_laws.proofs.start_laws.Knowing.{known_after_rows}
use Rattle.restart.specs.Behind.{KnowsOutput}
use Rattle.restart.proofs.Begun.{begins_with}

abbrev pub ObeysRows : Circuit ℕ → List (List ℕ) → List (List Bool) → ℕ → (ℕ → ℕ → Bool) → Type 0
ObeysRows c names rows n run =
    (t i : ℕ) (row : List Bool) (name : List ℕ) (bit : Bool) (p : ℕ) → t < n → slice_get rows t ≡ Some row → slice_get row i ≡ Some bit → slice_get names i ≡ Some name → Contains c.inputs (record { name = name; place = p }) → run t p ≡ bit

pub knows_same : (n : NetView) (names names' : List (List ℕ)) (rows rows' : List (List Bool)) (name name' : List ℕ) (value : Option Bool) → names ≡ names' → rows ≡ rows' → name ≡ name' → KnowsOutput n names rows name value →
    KnowsOutput n names' rows' name' value
knows_same n names names' rows rows' name name' value a b c h =
    subst (λ x. KnowsOutput n names' rows' x value) c (subst (λ x. KnowsOutput n names' x name value) b (subst (λ x. KnowsOutput n x rows name value) a h))

pub shows : (n : NetView) (names : List (List ℕ)) (rows : List (List Bool)) → All (λ (row : List Bool). length row ≡ length names) rows → (name : List ℕ) (value : Option Bool) (bit : Bool) (last : ℕ) → last ≡ length rows - 1 →
    KnowsOutput n names rows name value → value ≡ Some bit →
    (p : ℕ) × Contains (circuit_of n).outputs (record { name = name; place = p }) × ((m : ℕ) (run : ℕ → ℕ → Bool) → last < m → IsRun (circuit_of n) m run → ObeysRows (circuit_of n) names rows m run → run last p ≡ bit)
shows n names rows wide name value bit last is knows e =
    let k = knows bit e in (
      k.2,
      k.3,
      λ m run low is_run obeys.
          known_after_rows (circuit_of n) k.0 rows m run is_run (begins_with names rows wide n k.0 k.1 run (λ t i row nm b p lt r bt ni inp. obeys t i row nm b p (omega (arith, lt, low, is)) r bt ni inp)) last k.2 bit low
          (subst (λ t. IsKnown (circuit_of n) k.0 rows t k.2 bit) (sym is) k.4),
    )

-- two bits that aren't the same
pub bits_apart : (x y : Bool) → beq x y ≡ false → x ≡ y → ⊥
bits_apart true true h e = cc
bits_apart true false h e = cc
bits_apart false true h e = cc
bits_apart false false h e = cc
