use Rattle.edbf_unfold.proofs.class_queries.Meaning.{lits_are_functions}
use Rattle.edbf_unfold.proofs.class_queries.laws.enable_lits_are_functions.Goals as goal

pub returns : goal.returns
returns c = lits_are_functions
