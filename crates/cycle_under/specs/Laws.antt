-- What the queries of cycles under an assumption say of the runs that meet it. Each law is the contract of a function of this crate.
use Rattle.std.specs.Prelude.{ℕ, ◌<◌, ◌≤◌, Bool, List, []}
use Rattle.circuit_theory.specs.Agree.{IsPair}
use Rattle.circuit_theory.specs.Asked.{AreEqual}
use Rattle.circuit_theory.specs.Circuit.{Circuit}
use Rattle.circuit_theory.specs.Fits.{IsPairDepth}
use Rattle.circuit_theory.specs.Net.{IsNet}
use Rattle.circuit_theory.specs.Tree.{IsInputNumber, AreNumbered}
use Rattle.circuit_laws.specs.reset_laws.Reset.{HasStarts, AreBased, MakesDifferFromReset}
use Rattle.assume_laws.specs.Assume.{Assumption, ReadsInputs, AgreeFromResetUnder}
use Rattle.assume_laws.specs.Sequences.{RowsMeet}
use Rattle.cycle_under.specs.First.{reset_pair_under, IsWitnessFirst, AgreeUpToUnder}

-- Equal functions of each pair in these cycles mean agreement in them of the runs that meet the assumption.
abbrev pub EqualUpToAgreeUnder : Type 0
EqualUpToAgreeUnder = (c : Assumption) (a b : Circuit ℕ) (left right : List ℕ) (left_base right_base last : ℕ) → AreNumbered a b left right → AreBased a b left right left_base right_base → ReadsInputs c a left →
    ((p q t : ℕ) → IsPair [] a b p q → t ≤ last → AreEqual (reset_pair_under c a b left right left_base right_base p q t)) → AgreeUpToUnder c last a b

-- Where that is so up to the depth of each pair, it means agreement in every cycle.
abbrev pub EqualToDepthsAgreeUnder : Type 0
EqualToDepthsAgreeUnder = (c : Assumption) (a b : Circuit ℕ) (m n : ℕ) (left right : List ℕ) (left_base right_base last : ℕ) → IsNet a m → IsNet b n → HasStarts a → HasStarts b → AreNumbered a b left right →
    AreBased a b left right left_base right_base → ReadsInputs c a left → ((p q : ℕ) → IsPair [] a b p q → (d : ℕ) × IsPairDepth a b p q d × (d ≤ last)) →
    ((p q t : ℕ) → IsPair [] a b p q → t ≤ last → AreEqual (reset_pair_under c a b left right left_base right_base p q t)) → AgreeFromResetUnder c a b

-- A printed sequence meets the assumption in each of its cycles, and with its power-ups it makes the pair differ in the last one. The numbers
-- of the assumption's inputs are below the count.
abbrev pub WitnessDiffersUnder : Type 0
WitnessDiffersUnder = (c : Assumption) (a b : Circuit ℕ) (left right : List ℕ) (left_base right_base p q count : ℕ) (rows : List (List Bool)) (left_power right_power : List Bool) (last : ℕ) (l r : Bool) → HasStarts a → HasStarts b →
    AreBased a b left right left_base right_base → ((p i : ℕ) → IsInputNumber c.circuit c.order p i → i < count) →
    IsWitnessFirst c a b left right left_base right_base p q count rows left_power right_power last l r → MakesDifferFromReset a b left right p q rows left_power right_power last l r × RowsMeet c rows last
