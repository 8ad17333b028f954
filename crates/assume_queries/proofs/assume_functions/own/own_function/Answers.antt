-- The graph has the constant alone, and the table nothing.
use Rattle.std.proofs.Common.{length, ap}
use Rattle.assume_queries.proofs.assume_functions.own.own_function.Goals as goal

pub unfold_output-requires-clause-nodes : goal.unfold_output-requires-clause-nodes
unfold_output-requires-clause-nodes c = ap length c.in_ok-aig.ensures

pub unfold_output-requires-clause-entries : goal.unfold_output-requires-clause-entries
unfold_output-requires-clause-entries c = ap length c.new-places.ensures

pub returns-clause-own : goal.returns-clause-own
returns-clause-own c = record { unfolded = c.in_ok-function.ensures.unfolded; weighed = c.in_ok-function.ensures.weighed }
