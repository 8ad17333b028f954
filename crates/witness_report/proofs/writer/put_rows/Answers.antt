-- One row more.
use Rattle.std.proofs.Common.{List, Bool, ◌++◌, ap, ◌∙◌}
use Rattle.std.specs.List.{flat_map}
use Rattle.std.proofs.lemmas.List.{take_all}
use Rattle.witness_report.specs.Text.{row_line}
use Rattle.witness_report.proofs.Grown.{piece_more}
use Rattle.witness_report.proofs.writer.put_rows.Goals as goal

pub loop-row-preserved : goal.loop-row-preserved
loop-row-preserved c =
    piece_more row_line c.args.text.now.items c.loop-row.text.items c.put_row.new.text.items c.args.rows.now c.loop-row.row-index c.as_slice.result.now c.row-item.result
    c.loop-row.invariant c.loop-row-test.true c.in_ok-put_row.ensures (c.as_slice.ensures ∙ c.row-item.is)

pub returns : goal.returns
returns c = c.loop-row.invariant ∙ ap (λ (rows : List (List Bool)). c.args.text.now.items ++ flat_map row_line rows) (take_all c.loop-row.row-index c.args.rows.now c.loop-row-test.false)
