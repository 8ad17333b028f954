use Rattle.std.proofs.Common.{◌≡◌, map, take, length}
use Rattle.circuit_report.specs.sim_report.Checks.{start_bits}
use Rattle.circuit_report.specs.sim_report.Cycles.{reordered}
use Rattle.circuit_report.proofs.sim_report.Lines.{IsAt}
use Rattle.circuit_report.proofs.sim_report.cycles.put_cycles.Given as goal

abbrev pub invariant-loop-row : goal.invariant-loop-row
invariant-loop-row l = IsAt l.net l.enabled (start_bits l.net l.fn.power.reset l.fn.power.bits) (map (reordered l.columns) (take l.row-index l.rows)) l.sim l.initial.text.items l.text.items × (length l.bits.items ≡ length l.columns)
