-- What an outcome from the initial values that fits two nets under an assumption says of their circuits.
use Rattle.std.specs.Prelude.{◌≡◌, ℕ, Bool, map}
use Rattle.base_tables.specs.Table.{AreDistinct}
use Rattle.flat_net.specs.Sound.{IsSound}
use Rattle.flat_net.specs.View.{NetView, circuit_of}
use Rattle.obligations.specs.declared.outcome.verdict.Outcome.{Outcome}
use Rattle.obligations.specs.declared.outcome.verdict.ResetWitness.{ResetWitness}
use Rattle.obligations.specs.declared.outcome.verdict.Verdict.TheVariants as verdict
use Rattle.assume_laws.specs.Assume.{Assumption, AgreeFromResetUnder}
use Rattle.assume_laws.specs.Sequences.{RowsMeet}
use Rattle.plain_check.specs.under_base.under_fits.ResetOutcome.{ResetOutcomeFitsUnder, MakesResetsDifferUnder}

-- both nets are sound, and B's outputs have distinct names
pub record AreNets (a b : NetView) : Type 0 where
  pub left : IsSound a
  pub right : IsSound b
  pub right_distinct : AreDistinct (map (λ p. p.name) b.outputs)

abbrev pub EqualResetsSayUnder : Type 0
EqualResetsSayUnder = (c : Assumption) (meeting : ℕ → Bool) (a b : NetView) (conflicts : ℕ) (o : Outcome) → ResetOutcomeFitsUnder c meeting a b conflicts o → AreNets a b → o.verdict ≡ verdict.Equal → AgreeFromResetUnder c (circuit_of a) (circuit_of b)

abbrev pub DifferentResetsShowUnder : Type 0
DifferentResetsShowUnder = (c : Assumption) (meeting : ℕ → Bool) (a b : NetView) (conflicts : ℕ) (o : Outcome) → ResetOutcomeFitsUnder c meeting a b conflicts o → AreNets a b →
    (w : ResetWitness) → o.verdict ≡ verdict.DifferentFrom w → MakesResetsDifferUnder c (circuit_of a) (circuit_of b) w × RowsMeet c w.witness.stimulus.rows w.witness.cycle
