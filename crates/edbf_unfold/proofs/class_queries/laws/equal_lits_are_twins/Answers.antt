use Rattle.edbf_unfold.proofs.class_queries.Meaning.{twins_law}
use Rattle.edbf_unfold.proofs.class_queries.laws.equal_lits_are_twins.Goals as goal

pub returns : goal.returns
returns c = twins_law
