use Rattle.std.proofs.Common.{◌+◌, sym, ◌∙◌, arith}
use Rattle.text_numbers.proofs.Pieces.{line_next, line_last, rest_from}
use Rattle.text_numbers.proofs.lines.Lines.next_line.Goals as goal

pub returns-then-place-text : goal.returns-then-place-text
returns-then-place-text c =
    sym c.self.view_is ∙ line_last c.self.inside.is_done c.self.inside.rest.now c.if-self.false (sym c.if-place-text.true ∙ c.line_end-place.ensures.place)

pub returns : goal.returns
returns c =
    sym c.self.view_is
    ∙ line_next c.self.inside.is_done c.self.inside.rest.now c.line_end-place.result _ c.without_return.result.now c.if-self.false c.line_end-place.ensures.place (omega arith)
    (rest_from c.self.inside.rest.now (c.line_end-place.result + 1)) c.without_return.ensures
