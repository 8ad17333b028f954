use Rattle.std.proofs.Common.{◌≡◌, Bool, List, ◌++◌, codes, OnOk, subst}
use Rattle.witness_report.specs.Text.{row_line}
use Rattle.obligations.specs.outcome.Report.{witness_text}
use Rattle.obligations.proofs.outcome.Pieces.{on_ok, three_pieces}
use Rattle.obligations.proofs.outcome.text.put_reset_witness.Goals as goal

pub returns : goal.returns
returns c =
    let left = subst (λ (bits : List Bool). c.put_power.new.text.items ≡ c.put_witness.new.text.items ++ (codes "power A " ++ row_line bits)) c.as_slice.ensures c.in_ok-put_power.ensures in
    let right = subst (λ (bits : List Bool). OnOk c.put_power-2.result (c.put_power-2.new.text.items ≡ c.put_power.new.text.items ++ (codes "power B " ++ row_line bits))) c.as_slice-2.ensures c.put_power-2.ensures in
    let w = c.args.shown.now in
    on_ok c.put_power-2.result
    (λ last. three_pieces c.args.text.now.items c.args.front.now (witness_text w.witness) (codes "power A ") (row_line w.left_power) (codes "power B ") (row_line w.right_power) _ _ _ c.in_ok-put_witness.ensures left last) right
