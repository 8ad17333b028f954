use Rattle.std.proofs.Common.{◌≡◌, ◌++◌, false, replicate}
use Rattle.assume_queries.proofs.assume_sequences.assume_taken.widening.lengthened.Given as goal

abbrev pub invariant-loop-i : goal.invariant-loop-i
invariant-loop-i l = l.longer ≡ l.fn.row ++ replicate l._i false
