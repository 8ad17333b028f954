use Rattle.std.specs.Prelude.{◌≡◌, ◌++◌, take}
use Rattle.std.specs.List.{flat_map}
use Rattle.induct.specs.induct_report.Report.{block_line}
use Rattle.induct.proofs.induct_report.whole.put_block_lines.Given as goal

abbrev pub invariant-loop-block : goal.invariant-loop-block
invariant-loop-block l = l.text.items ≡ l.initial.text.items ++ flat_map (block_line l.a l.b) (take l.block-index l.blocks)
