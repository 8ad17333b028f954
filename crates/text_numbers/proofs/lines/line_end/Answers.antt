use Rattle.std.proofs.Common.{arith, sym, ◌∙◌}
use Rattle.text_numbers.specs.Lines.{is_line_feed}
use Rattle.text_numbers.proofs.Pieces.{place_found, place_none}
use Rattle.text_numbers.proofs.lines.line_end.Goals as goal

pub returns-then-is_line_feed-clause-place : goal.returns-then-is_line_feed-clause-place
returns-then-is_line_feed-clause-place c =
    place_found is_line_feed c.args.text.now c.loop-place.place (omega arith) c.loop-place.invariant (sym c.is_line_feed.ensures ∙ c.if-is_line_feed.true)

pub returns-clause-place : goal.returns-clause-place
returns-clause-place c = place_none is_line_feed c.args.text.now (λ k h. c.loop-place.invariant k (omega arith))
