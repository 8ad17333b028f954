use Rattle.std.proofs.Common.{◌≡◌, suc, false, length}
use Rattle.lrat_core.specs.dimacs_text.Dimacs.{formula_of, body_from, is_past}
use Rattle.lrat_core.proofs.dimacs_text.reader.read_dimacs.Given as goal

-- the entries so far, and what the lines that are left give behind them
abbrev pub invariant-loop-line : goal.invariant-loop-line
invariant-loop-line l = record {
  same : formula_of l.text ≡ body_from l.body.header l.body.entries.items (suc l.lines.number) l.lines.left;
  few : is_past l.body.header.clauses l.body.entries.items ≡ false;
}

abbrev pub decreases-loop-line : goal.decreases-loop-line
decreases-loop-line l = length l.lines.left
