use Rattle.edbf_unfold.proofs.CareMeaning.{care_value}
use Rattle.edbf_unfold.proofs.laws.care_literal_is_care.Goals as goal

pub returns : goal.returns
returns c = care_value
