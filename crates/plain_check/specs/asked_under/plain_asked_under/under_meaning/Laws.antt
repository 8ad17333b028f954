-- What an outcome that fits two nets under an assumption says of their circuits.
use Rattle.std.specs.Prelude.{◌≡◌, ℕ, Bool, map}
use Rattle.base_tables.specs.Table.{AreDistinct}
use Rattle.flat_net.specs.Sound.{IsSound}
use Rattle.flat_net.specs.View.{NetView, circuit_of}
use Rattle.witness_report.specs.declared.witness.Witness.{Witness}
use Rattle.witness_report.specs.Shown.{MakesDiffer, MakesCutsDiffer}
use Rattle.obligations.specs.declared.outcome.verdict.Outcome.{Outcome}
use Rattle.obligations.specs.declared.outcome.verdict.Verdict.TheVariants as verdict
use Rattle.obligations.specs.declared.outcome.verdict.Why.TheVariants as why
use Rattle.assume_laws.specs.Assume.{Assumption}
use Rattle.assume_laws.specs.Sequences.{RowsMeet}
use Rattle.plain_check.specs.under_base.under_fits.Outcome.{OutcomeFitsUnder, AreEqualUnder}

-- both nets are sound, and their outputs have distinct names
pub record AreNets (a b : NetView) : Type 0 where
  pub left : IsSound a
  pub right : IsSound b
  pub left_distinct : AreDistinct (map (λ p. p.name) a.outputs)
  pub right_distinct : AreDistinct (map (λ p. p.name) b.outputs)

abbrev pub EqualSaysUnder : Type 0
EqualSaysUnder = (c : Assumption) (meeting : ℕ → Bool) (a b : NetView) (expose : Bool) (conflicts : ℕ) (o : Outcome) → OutcomeFitsUnder c meeting a b expose conflicts o → AreNets a b →
    o.verdict ≡ verdict.Equal → AreEqualUnder c (circuit_of a) (circuit_of b) o

abbrev pub DifferentShowsUnder : Type 0
DifferentShowsUnder = (c : Assumption) (meeting : ℕ → Bool) (a b : NetView) (expose : Bool) (conflicts : ℕ) (o : Outcome) → OutcomeFitsUnder c meeting a b expose conflicts o → AreNets a b →
    (w : Witness) → o.verdict ≡ verdict.Different w → MakesDiffer (circuit_of a) (circuit_of b) w × RowsMeet c w.stimulus.rows w.cycle

abbrev pub NotShownUnder : Type 0
NotShownUnder = (c : Assumption) (meeting : ℕ → Bool) (a b : NetView) (expose : Bool) (conflicts : ℕ) (o : Outcome) → OutcomeFitsUnder c meeting a b expose conflicts o → AreNets a b →
    (w : Witness) → o.verdict ≡ verdict.NotShown (why.Cut w) → MakesCutsDiffer o.exposed (circuit_of a) (circuit_of b) w × RowsMeet c w.stimulus.rows w.cycle
