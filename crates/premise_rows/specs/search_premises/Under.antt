-- Circuits whose latches lie on cycles, which agree, or differ, in the runs in which an input is 1.
use Rattle.std.specs.Prelude.{ℕ, ◌<◌, ◌≤◌, Bool, true, false, List, [], ◌∷◌, codes}
use Rattle.circuit_theory.specs.Agree.{IsPair}
use Rattle.circuit_theory.specs.Asked.{AreEqual}
use Rattle.circuit_theory.specs.Circuit.{Circuit, Gate, Latch}
use Rattle.circuit_theory.specs.Cover.{Cover}
use Rattle.circuit_theory.specs.Fits.{IsPairDepth}
use Rattle.circuit_theory.specs.Tree.{AreNumbered, IsInputNumber}
use Rattle.circuit_laws.specs.reset_laws.Reset.{HasStarts, AreBased, MakesDifferFromReset}
use Rattle.circuit_laws.specs.cycle_laws.Bounded.{AgreeUpTo}
use Rattle.assume_laws.specs.Assume.{ReadsInputs, AgreeFromResetUnder}
use Rattle.assume_laws.specs.Sequences.{RowsMeet}
use Rattle.cycle_under.specs.First.{reset_pair_under, IsWitnessFirst, AgreeUpToUnder}
use Rattle.pair_texts.specs.design_rows.Designs.{xor_cover}
use Rattle.call_rows.specs.circuit_samples.Circuits.{input_a, buffer, inverter, only_a, one_from, constant_from_zero}
use Rattle.call_rows.specs.circuit_samples.Assumed.{AreResetSidesUnder}

-- 0 a, 1 y, a latch from 0, 2 what it takes over: the cover of these
abbrev pub taking : List ℕ → Cover → Circuit ℕ
taking fanins cover = record {
  inputs = input_a ∷ [];
  outputs = record { name = codes "y"; place = 1 } ∷ [];
  equations = Gate 2 fanins cover ∷ Latch (codes "y") 1 2 ∷ [];
  starts = record { place = 1; bit = false } ∷ [];
}

-- the latch turns where a is 1, it turns in each cycle, and it stays
abbrev pub turning_with : Circuit ℕ
turning_with = taking (0 ∷ 1 ∷ []) xor_cover

abbrev pub turning : Circuit ℕ
turning = taking (1 ∷ []) inverter

abbrev pub staying : Circuit ℕ
staying = taking (1 ∷ []) buffer

-- the numbers of the inputs
abbrev pub of_a : List ℕ
of_a = 0 ∷ []

-- Where a is 1 a latch that turns with it and one that turns always have equal functions in every cycle. So they agree in the runs in which
-- it always is, up to any cycle; in all runs they don't agree up to cycle 1.
pub record AgreeWhereOne : Type 0 where
  pub numbered : AreNumbered turning_with turning of_a of_a
  pub based : AreBased turning_with turning of_a of_a 1 2
  pub reads : ReadsInputs only_a turning_with of_a
  pub equal : (p q t : ℕ) → IsPair [] turning_with turning p q → AreEqual (reset_pair_under only_a turning_with turning of_a of_a 1 2 p q t)
  pub agree : (last : ℕ) → AgreeUpToUnder only_a last turning_with turning
  pub apart : AgreeUpTo 1 turning_with turning → ⊥

-- A latch of a and one of the constant 1, both from 0, have equal functions where a is 1 up to their depth, so they agree for ever where it
-- always is.
pub record AgreeToDepth : Type 0 where
  pub sides : AreResetSidesUnder
  pub deep : (p q : ℕ) → IsPair [] (one_from false) constant_from_zero p q → (d : ℕ) × IsPairDepth (one_from false) constant_from_zero p q d × (d ≤ 1)
  pub equal : (p q t : ℕ) → IsPair [] (one_from false) constant_from_zero p q → t ≤ 1 → AreEqual (reset_pair_under only_a (one_from false) constant_from_zero of_a of_a 1 2 p q t)
  pub agree : AgreeFromResetUnder only_a (one_from false) constant_from_zero

-- a is 1 in the cycles 0 and 1
abbrev pub two_ones : List (List Bool)
two_ones = (true ∷ []) ∷ (true ∷ []) ∷ []

-- Where a is 1 a latch that turns with it and one that stays differ in cycle 1.
pub record DifferWhereOne : Type 0 where
  pub left_starts : HasStarts turning_with
  pub right_starts : HasStarts staying
  pub based : AreBased turning_with staying of_a of_a 1 2
  pub low : (p i : ℕ) → IsInputNumber only_a.circuit only_a.order p i → i < 1
  pub witness : IsWitnessFirst only_a turning_with staying of_a of_a 1 2 1 1 1 two_ones (false ∷ []) (false ∷ []) 1 true false
  pub differ : MakesDifferFromReset turning_with staying of_a of_a 1 1 two_ones (false ∷ []) (false ∷ []) 1 true false × RowsMeet only_a two_ones 1

abbrev pub CircuitsMeetUnder : Type 0
CircuitsMeetUnder = AgreeWhereOne × AgreeToDepth × DifferWhereOne
