-- What latches power up with from their initial values.
use Rattle.std.specs.Prelude.{◌≡◌, true, false, [], ◌∷◌, None, Some, codes}
use Rattle.flat_net.specs.View.{NetView}
use Rattle.circuit_report.specs.sim_report.Checks.{power_of}
use Rattle.job_base.specs.sec_files.Loading.{IsAccepted, Loads}
use Rattle.pair_texts.specs.design_rows.Texts.{started}

-- Of three latches two have an initial value 0 or 1: with `reset` they have it, whatever the power word says, and the third has its
-- digit, or 0.
pub record StartedPowersUp : Type 0 where
  pub accepted : IsAccepted started
  pub without_word : (net : NetView) → Loads started net → power_of net None true ≡ true ∷ false ∷ false ∷ []
  pub with_word : (net : NetView) → Loads started net → power_of net (Some (codes "011")) true ≡ true ∷ false ∷ true ∷ []
