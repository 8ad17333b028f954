-- Runs that meet an assumption behind the rows of a stimulus, and what is said of two circuits in them. A run may be cut off behind the cycle
-- that is looked at.
use Rattle.std.specs.Prelude.{◌≡◌, ℕ, ◌-◌, ◌<◌, ◌≤◌, Bool, List, [], length}
use Rattle.circuit_theory.specs.Agree.{AreAlike, IsPair}
use Rattle.circuit_theory.specs.Circuit.{Circuit}
use Rattle.circuit_theory.specs.Joined.{beside}
use Rattle.circuit_laws.specs.declared.signal_laws.anchor.Anchor.{Anchor}
use Rattle.circuit_laws.specs.signal_laws.Ties.{AreTied}
use Rattle.witness_report.specs.declared.stimulus.Stimulus.{Stimulus}
use Rattle.restart.specs.Agreement.{BeginsBy}
use Rattle.pair_texts.specs.assume_texts.Meets.{OutputsHold, HasInputsOf, HasInputsIn}

-- the run of the circuit a meets the assumption c in each of its n cycles from this one on
abbrev pub RunMeetsFrom : {P R : Type 0} → ℕ → Circuit R → Circuit P → ℕ → (ℕ → P → Bool) → Type 0
RunMeetsFrom first c a n run = (t : ℕ) → first ≤ t → t < n → OutputsHold c (HasInputsOf c a (run t))

-- In any two runs with equal inputs that begin by the rows and meet the assumption c in each cycle behind them, whatever both power up with,
-- each output has equal values in these cycles behind the rows; the first of them is 0.
abbrev pub AgreeBehindWhereMet : {P Q R : Type 0} → List (List ℕ) → List (List Bool) → (ℕ → Type 0) → Circuit R → Circuit P → Circuit Q → Type 0
AgreeBehindWhereMet {P} {Q} {R} names rows Wanted c a b =
    (n : ℕ) (left : ℕ → P → Bool) (right : ℕ → Q → Bool) → AreAlike a b n left right → BeginsBy a names rows left → BeginsBy b names rows right → RunMeetsFrom (length rows) c a n left →
    (t : ℕ) (p : P) (q : Q) → length rows ≤ t → t < n → Wanted (t - length rows) → IsPair [] a b p q → left t p ≡ right t q

-- in any two such runs the ties of their signals, of which so many are A's, hold in each cycle behind the rows
abbrev pub TiesHoldWhereMet : {R : Type 0} → List (List ℕ) → List (List Bool) → Circuit R → Circuit ℕ → Circuit ℕ → ℕ → List Anchor → Type 0
TiesHoldWhereMet names rows c a b size anchors =
    (n : ℕ) (left right : ℕ → ℕ → Bool) → AreAlike a b n left right → BeginsBy a names rows left → BeginsBy b names rows right → RunMeetsFrom (length rows) c a n left →
    (t : ℕ) → length rows ≤ t → t < n → AreTied size anchors (beside (left t) (right t))

-- the sequence meets the assumption c in each cycle from this one up to the last
abbrev pub SequenceMeetsFrom : {R : Type 0} → ℕ → Circuit R → Stimulus → ℕ → Type 0
SequenceMeetsFrom first c stimulus last = (t : ℕ) → first ≤ t → t ≤ last → OutputsHold c (HasInputsIn c stimulus t)
