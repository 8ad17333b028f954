use Rattle.edbf_unfold.proofs.class_queries.Meaning.{off_law}
use Rattle.edbf_unfold.proofs.class_queries.laws.difference_is_off.Goals as goal

pub returns : goal.returns
returns c = off_law
