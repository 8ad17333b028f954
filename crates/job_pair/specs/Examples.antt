-- Texts that meet the premise of completeness.
use Rattle.std.specs.Prelude.{Bool, false, codes}
use Rattle.circuit_theory.specs.declared.Mode.TheVariants.{Plain}
use Rattle.sec_base.specs.declared.settings.Settings.{Settings}
use Rattle.pair_texts.specs.design_rows.Texts.{early, hier, late, off_and, on_and}
use Rattle.job_pair.specs.Answer.{ArePairComparable}

abbrev pub plainly : Bool → Settings
plainly expose = record { mode = Plain; expose = expose; conflicts = 20000; reset = false }

-- two `and`s by other rows, and an `and` with a latch behind it, also where it stands in an instance, against the same retimed
abbrev pub PairsAreComparable : Type 0
PairsAreComparable =
    (expose : Bool) → ArePairComparable on_and off_and (codes "y") (plainly expose) × ArePairComparable late early (codes "y") (plainly expose) × ArePairComparable hier early (codes "y") (plainly expose)
