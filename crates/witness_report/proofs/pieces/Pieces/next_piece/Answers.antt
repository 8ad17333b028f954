use Rattle.std.proofs.Common.{◌+◌, sym, ◌∙◌, arith}
use Rattle.witness_report.proofs.Places.{piece_next, piece_last, rest_from}
use Rattle.witness_report.proofs.pieces.Pieces.next_piece.Goals as goal

pub returns-then-place-text : goal.returns-then-place-text
returns-then-place-text c =
    sym c.self.view_is ∙ piece_last c.self.inside.separator c.self.inside.is_done c.self.inside.rest.now c.if-self.false (sym c.if-place-text.true ∙ c.place_of-place.ensures.place)

pub returns : goal.returns
returns c =
    sym c.self.view_is
    ∙ piece_next c.self.inside.separator c.self.inside.is_done c.self.inside.rest.now c.place_of-place.result _ c.if-self.false c.place_of-place.ensures.place (omega arith) (rest_from c.self.inside.rest.now (c.place_of-place.result + 1))
