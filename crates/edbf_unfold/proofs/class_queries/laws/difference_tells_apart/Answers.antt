use Rattle.edbf_unfold.proofs.class_queries.Meaning.{apart_law}
use Rattle.edbf_unfold.proofs.class_queries.laws.difference_tells_apart.Goals as goal

pub returns : goal.returns
returns c = apart_law
