use Rattle.std.proofs.Common.{◌≡◌, [], replicate}
use Rattle.aiger_read.proofs.aiger_file.aiger_graph.graph.no_reads.Given as goal

abbrev pub invariant-loop-place : goal.invariant-loop-place
invariant-loop-place l = l.graph.items ≡ replicate l.place []
