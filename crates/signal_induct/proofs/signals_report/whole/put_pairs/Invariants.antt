use Rattle.std.specs.Prelude.{◌≡◌, ◌++◌, take}
use Rattle.std.specs.List.{flat_map}
use Rattle.signal_induct.specs.signals_report.Report.{pair_line}
use Rattle.signal_induct.proofs.signals_report.whole.put_pairs.Given as goal

abbrev pub invariant-loop-pair : goal.invariant-loop-pair
invariant-loop-pair l = l.text.items ≡ l.initial.text.items ++ flat_map pair_line (take l.pair-index l.pairs)
