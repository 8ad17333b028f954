use Rattle.job_known.proofs.Cycles.{IsAt}
use Rattle.job_known.proofs.known_pairs.known_replay.Given as goal

abbrev pub invariant-loop-t : goal.invariant-loop-t
invariant-loop-t l = IsAt l.a l.b l.initial.both.left.columns.items l.initial.both.right.columns.items l.rows l.pairs l.t l.both.left l.both.right l.found
