use Rattle.std.proofs.Common.{◌≡◌, drop}
use Rattle.circuit_theory.specs.Cover.{row_matches}
use Rattle.sec_base.proofs.covers.row_matches.Given as goal

abbrev pub invariant-loop-i : goal.invariant-loop-i
invariant-loop-i l = row_matches l.row l.bits ≡ row_matches (drop l.i l.row) (drop l.i l.bits)
