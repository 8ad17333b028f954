use Rattle.std.specs.Prelude.{◌≡◌, ◌++◌, take}
use Rattle.std.specs.List.{flat_map}
use Rattle.witness_report.specs.frame_report.Text.{spot_line}
use Rattle.witness_report.proofs.frame_report.text.put_frame.Given as goal

abbrev pub invariant-loop-spot : goal.invariant-loop-spot
invariant-loop-spot l = l.text.items ≡ l.initial.text.items ++ flat_map spot_line (take l.spot-index l.spot-items)
