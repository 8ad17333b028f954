-- One spot more.
use Rattle.std.proofs.Common.{List, ◌++◌, ap, ◌∙◌}
use Rattle.std.specs.List.{flat_map}
use Rattle.std.proofs.lemmas.List.{take_all}
use Rattle.witness_report.specs.declared.frame_report.frame.Spot.{Spot}
use Rattle.witness_report.specs.frame_report.Text.{spot_line, frame_text}
use Rattle.witness_report.proofs.Grown.{piece_more}
use Rattle.witness_report.proofs.frame_report.text.put_frame.Goals as goal

pub loop-spot-preserved : goal.loop-spot-preserved
loop-spot-preserved c =
    piece_more spot_line c.args.text.now.items c.loop-spot.text.items c.put_spot.new.text.items c.as_slice-spot-items.result.now c.loop-spot.spot-index c.spot-item.result c.spot-item.result
    c.loop-spot.invariant c.loop-spot-test.true c.in_ok-put_spot.ensures c.spot-item.is

pub returns : goal.returns
unfolding frame_text
returns c =
    c.loop-spot.invariant ∙ ap (λ (spots : List Spot). c.args.text.now.items ++ flat_map spot_line spots)
    (take_all c.loop-spot.spot-index c.as_slice-spot-items.result.now c.loop-spot-test.false ∙ c.as_slice-spot-items.ensures)
