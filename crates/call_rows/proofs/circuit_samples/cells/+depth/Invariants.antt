use Rattle.call_rows.proofs.circuit_samples.cells.+depth.Given as goal

abbrev pub decreases-depth : goal.decreases-depth
decreases-depth l = l.signal
