-- A comparison's setup, numbers and functions that are sound.
use Rattle.sec_setup.specs.declared.setup.Setup.{Setup}
use Rattle.sec_setup.specs.Setup.{IsSetup}
use Rattle.reset_form.specs.declared.reset_functions.bases.Bases.{Bases}
use Rattle.reset_form.specs.declared.reset_functions.functions.Functions.{Functions}
use Rattle.reset_form.specs.reset_functions.Bases.{AreBases}
use Rattle.reset_form.proofs.reset_asked.PairCycles.{AreSoundFunctions}

-- what is compared, with the numbers of its variables
pub record AreSound (s : Setup) (b : Bases) (f : Functions) : Type 0 where
  pub setup : IsSetup s
  pub bases : AreBases s b
  pub functions : AreSoundFunctions f
