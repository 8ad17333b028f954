use Rattle.edbf_unfold.proofs.EventLiterals.{literal_value}
use Rattle.edbf_unfold.proofs.laws.literal_is_tree.Goals as goal

pub returns : goal.returns
returns c = literal_value
