use Rattle.std.proofs.Common.{sym, ◌∙◌, arith}
use Rattle.blif_read.proofs.blif_lines.Pieces.{next_is, last_is, rest_from}
use Rattle.blif_read.proofs.blif_lines.physical.Pieces.next_piece.Goals as goal

pub returns-then-place-self-clause-some : goal.returns-then-place-self-clause-some
returns-then-place-self-clause-some c =
    rw c.if-self.false (last_is c.args.self.now.rest.now (sym c.if-place-self.true ∙ c.place_of-place.ensures.place))

pub returns-clause-some : goal.returns-clause-some
returns-clause-some c =
    rw (c.if-self.false, rest_from) (next_is c.args.self.now.rest.now c.place_of-place.result c.place_of-place.ensures.place (omega arith))
