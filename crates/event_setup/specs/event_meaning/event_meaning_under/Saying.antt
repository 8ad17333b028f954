-- What each answer of a comparison under an assumption says of the two circuits, by the form of comparing.
use Rattle.std.specs.Prelude.{ℕ, List}
use Rattle.circuit_theory.specs.declared.Mode.{Mode}
use Rattle.circuit_theory.specs.declared.Mode.TheVariants.{Plain, Event}
use Rattle.circuit_theory.specs.Circuit.{Circuit}
use Rattle.witness_report.specs.declared.witness.Witness.{Witness}
use Rattle.witness_report.specs.Shown.{MakesDiffer, MakesCutsDiffer}
use Rattle.obligations.specs.declared.outcome.verdict.Outcome.{Outcome}
use Rattle.assume_laws.specs.Assume.{Assumption, AgreeUnder, AgreeOnwardUnder}
use Rattle.assume_laws.specs.Sequences.{RowsMeet}
use Rattle.plain_check.specs.under_base.under_fits.Outcome.{AreEqualUnder}

-- what equal says of the runs that meet the assumption; in the event mode no pair is settled from a cycle on that is known
abbrev pub SaysEqualUnder : {P Q : Type 0} → Mode → Assumption → Outcome → Circuit P → Circuit Q → Type 0
SaysEqualUnder Plain c o a b = AreEqualUnder c a b o
SaysEqualUnder Event c o a b = AgreeUnder Event c a b × AgreeOnwardUnder Event o.exposed c a b

-- what different says: the sequence makes the named output differ in all runs, and meets the assumption in each of its cycles
abbrev pub SaysDifferentUnder : {P Q : Type 0} → Assumption → Witness → Circuit P → Circuit Q → Type 0
SaysDifferentUnder c w a b = MakesDiffer a b w × RowsMeet c w.stimulus.rows w.cycle

-- What not shown says, where latches of these names are cut out: the sequence makes the named pair differ in all runs of what is left, and meets the
-- assumption in each of its cycles.
abbrev pub SaysNotShownUnder : {P Q : Type 0} → Assumption → List (List ℕ) → Witness → Circuit P → Circuit Q → Type 0
SaysNotShownUnder c names w a b = MakesCutsDiffer names a b w × RowsMeet c w.stimulus.rows w.cycle
