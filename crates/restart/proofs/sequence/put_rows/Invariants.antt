use Rattle.std.specs.Prelude.{◌≡◌, ◌++◌, take}
use Rattle.restart.proofs.sequence.put_rows.Given as goal

abbrev pub invariant-loop-row : goal.invariant-loop-row
invariant-loop-row l = l.made ≡ l.initial.made ++ take l.row-index l.rows
