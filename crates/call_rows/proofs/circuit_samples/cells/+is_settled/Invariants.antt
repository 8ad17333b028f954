use Rattle.call_rows.proofs.circuit_samples.cells.+is_settled.Given as goal

abbrev pub decreases-is_settled : goal.decreases-is_settled
decreases-is_settled l = l.signal
