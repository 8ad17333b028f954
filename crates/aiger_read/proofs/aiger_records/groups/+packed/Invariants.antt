use Rattle.aiger_read.proofs.aiger_records.groups.+packed.Given as goal

abbrev pub decreases-packed : goal.decreases-packed
decreases-packed l = l.groups
