-- The literals so far are copied.
use Rattle.std.proofs.Common.{◌≡◌, map, take}
use Rattle.aig.specs.graph_copy.graph_clone.Twins.{twin_in}
use Rattle.word_sums.proofs.words.copies_of.Given as goal

abbrev pub invariant-loop-i : goal.invariant-loop-i
invariant-loop-i l = l.copies.items ≡ map (twin_in l.lits) (take l.i l.word)
