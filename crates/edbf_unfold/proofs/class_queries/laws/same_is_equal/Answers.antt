use Rattle.edbf_unfold.proofs.class_queries.Meaning.{equal_law}
use Rattle.edbf_unfold.proofs.class_queries.laws.same_is_equal.Goals as goal

pub returns : goal.returns
returns c = equal_law
