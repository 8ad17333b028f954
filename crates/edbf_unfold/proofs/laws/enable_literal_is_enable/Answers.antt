use Rattle.edbf_unfold.proofs.EventLiterals.{enable_value}
use Rattle.edbf_unfold.proofs.laws.enable_literal_is_enable.Goals as goal

pub returns : goal.returns
returns c = enable_value
