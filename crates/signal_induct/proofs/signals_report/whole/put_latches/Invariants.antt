use Rattle.std.specs.Prelude.{◌≡◌, ◌++◌, take}
use Rattle.std.specs.List.{flat_map}
use Rattle.signal_induct.specs.signals_report.Report.{latch_line}
use Rattle.signal_induct.proofs.signals_report.whole.put_latches.Given as goal

abbrev pub invariant-loop-latch : goal.invariant-loop-latch
invariant-loop-latch l = l.text.items ≡ l.initial.text.items ++ flat_map (latch_line l.a l.b l.anchors l.front l.offset) (take l.latch-index l.latches)
