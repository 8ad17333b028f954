use Rattle.std.specs.Prelude.{◌≡◌, ◌++◌, take}
use Rattle.std.specs.List.{flat_map}
use Rattle.witness_report.specs.frame_report.Text.{step_text}
use Rattle.witness_report.proofs.frame_report.text.put_path.Given as goal

abbrev pub invariant-loop-class : goal.invariant-loop-class
invariant-loop-class l = l.text.items ≡ l.initial.text.items ++ flat_map step_text (take l.class-index l.path)
