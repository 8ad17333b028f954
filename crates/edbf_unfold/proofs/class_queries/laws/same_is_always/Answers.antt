use Rattle.edbf_unfold.proofs.class_queries.Meaning.{always_law}
use Rattle.edbf_unfold.proofs.class_queries.laws.same_is_always.Goals as goal

pub returns : goal.returns
returns c = always_law
