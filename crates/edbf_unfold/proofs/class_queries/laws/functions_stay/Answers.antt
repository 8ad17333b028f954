use Rattle.edbf_unfold.proofs.class_queries.Staying.{functions_stay_in_nets}
use Rattle.edbf_unfold.proofs.class_queries.laws.functions_stay.Goals as goal

pub returns : goal.returns
returns c = functions_stay_in_nets
