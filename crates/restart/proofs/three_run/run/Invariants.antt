use Rattle.restart.proofs.Ran.{Ran, nothing}
use Rattle.restart.proofs.three_run.run.Given as goal

abbrev pub invariant-loop-row : goal.invariant-loop-row
invariant-loop-row l = Ran l.net l.columns l.rows nothing l.row-index l.latches l.values
