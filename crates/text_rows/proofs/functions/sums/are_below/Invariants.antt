-- Those so far are.
use Rattle.std.proofs.Common.{ℕ, ◌<◌, get_or}
use Rattle.aig.specs.declared.node.Lit.{Lit}
use Rattle.text_rows.proofs.functions.sums.are_below.Given as goal

abbrev pub invariant-loop-i : goal.invariant-loop-i
invariant-loop-i l = (k : ℕ) (d : Lit) → k < l.i → (get_or l.lits k d).0 < l.number
