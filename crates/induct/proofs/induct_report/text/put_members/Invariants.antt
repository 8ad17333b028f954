use Rattle.std.specs.Prelude.{◌≡◌, ◌++◌, take}
use Rattle.std.specs.List.{flat_map}
use Rattle.induct.specs.induct_report.Report.{member_text}
use Rattle.induct.proofs.induct_report.text.put_members.Given as goal

abbrev pub invariant-loop-tag : goal.invariant-loop-tag
invariant-loop-tag l = l.text.items ≡ l.initial.text.items ++ flat_map (member_text l.a l.b) (take l.tag-index l.block)
