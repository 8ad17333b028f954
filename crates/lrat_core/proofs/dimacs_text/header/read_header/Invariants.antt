use Rattle.std.proofs.Common.{◌≡◌, suc, length}
use Rattle.lrat_core.specs.dimacs_text.Dimacs.{formula_from}
use Rattle.lrat_core.proofs.dimacs_text.header.read_header.Given as goal

-- all lines so far are passed over
abbrev pub invariant-loop-line : goal.invariant-loop-line
invariant-loop-line l = formula_from (suc l.fn.lines.number) l.fn.lines.left ≡ formula_from (suc l.lines.number) l.lines.left

abbrev pub decreases-loop-line : goal.decreases-loop-line
decreases-loop-line l = length l.lines.left
