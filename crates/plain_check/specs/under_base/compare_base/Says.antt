-- What each answer of a comparison says of the two circuits, by the form of comparing.
use Rattle.std.specs.Prelude.{◌≡◌, ◌≢◌, ℕ, ◌<◌, Bool, List, length}
use Rattle.std.specs.List.{Contains}
use Rattle.circuit_theory.specs.declared.Mode.{Mode}
use Rattle.circuit_theory.specs.declared.Mode.TheVariants.{Plain, Event}
use Rattle.circuit_theory.specs.Agree.{Agree, AgreeOnward}
use Rattle.circuit_theory.specs.Circuit.{Circuit}
use Rattle.circuit_theory.specs.Cone.{latches_of}
use Rattle.circuit_theory.specs.Run.{IsRun, IsResetRun}
use Rattle.witness_report.specs.declared.witness.PairName.TheVariants as pair
use Rattle.witness_report.specs.declared.witness.Witness.{Witness}
use Rattle.witness_report.specs.Shown.{Obeys, MakesDiffer, MakesCutsDiffer}
use Rattle.obligations.specs.declared.outcome.verdict.Outcome.{Outcome}
use Rattle.obligations.specs.declared.outcome.verdict.ResetWitness.{ResetWitness}
use Rattle.circuit_laws.specs.reset_laws.Reset.{AreAlikeFromReset, TakesPower}
use Rattle.outcome_fits.specs.plain_meaning.Equal.{AreEqual}

-- what equal says; in the event mode no pair is settled from a cycle on that is known
abbrev pub SaysEqual : {P Q : Type 0} → Mode → Outcome → Circuit P → Circuit Q → Type 0
SaysEqual Plain o a b = AreEqual a b o
SaysEqual Event o a b = Agree Event a b × AgreeOnward Event o.exposed a b

-- what different says: the sequence makes the named output differ in all runs
abbrev pub SaysDifferent : {P Q : Type 0} → Mode → Witness → Circuit P → Circuit Q → Type 0
SaysDifferent mode w a b = MakesDiffer a b w

-- what not shown says, where latches of these names are cut out: the sequence makes the named pair differ in all runs of what is left
abbrev pub SaysNotShown : {P Q : Type 0} → Mode → List (List ℕ) → Witness → Circuit P → Circuit Q → Type 0
SaysNotShown mode names w a b = MakesCutsDiffer names a b w

-- What different says from the latches' initial values: runs that power up as is printed begin with the initial values, and every two of
-- them that obey the sequence have the printed values of the named outputs in the printed cycle, which differ. In no two runs with equal
-- inputs that begin with the initial values do these outputs differ in an earlier cycle.
pub record MakesResetsDiffer {P Q : Type 0} (a : Circuit P) (b : Circuit Q) (w : ResetWitness) : Type 0 where
  pub name : List ℕ
  pub left_place : P
  pub right_place : Q
  pub named : w.witness.pair ≡ pair.Output name
  pub left_output : Contains a.outputs (record { name = name; place = left_place })
  pub right_output : Contains b.outputs (record { name = name; place = right_place })
  pub differ : w.witness.left ≢ w.witness.right
  pub left_each : length w.left_power ≡ length (latches_of a)
  pub right_each : length w.right_power ≡ length (latches_of b)
  pub left_begins : (n : ℕ) (run : ℕ → P → Bool) → IsRun a n run → TakesPower a w.left_power run → IsResetRun a n run
  pub right_begins : (n : ℕ) (run : ℕ → Q → Bool) → IsRun b n run → TakesPower b w.right_power run → IsResetRun b n run
  pub left_shows : (n : ℕ) (run : ℕ → P → Bool) → w.witness.cycle < n → IsRun a n run → TakesPower a w.left_power run → Obeys a w.witness.stimulus n run → run w.witness.cycle left_place ≡ w.witness.left
  pub right_shows : (n : ℕ) (run : ℕ → Q → Bool) → w.witness.cycle < n → IsRun b n run → TakesPower b w.right_power run → Obeys b w.witness.stimulus n run → run w.witness.cycle right_place ≡ w.witness.right
  pub earlier : (n : ℕ) (left : ℕ → P → Bool) (right : ℕ → Q → Bool) → AreAlikeFromReset a b n left right → (t : ℕ) → t < n → t < w.witness.cycle → left t left_place ≡ right t right_place
