use Rattle.std.proofs.Common.{sym, ◌∙◌, arith}
use Rattle.blif_read.proofs.blif_lines.Pieces.{word_is, last_word_is, rest_from}
use Rattle.blif_read.proofs.blif_lines.tokens.first_word.Goals as goal

pub returns-then-place-bytes-clause-tokens : goal.returns-then-place-bytes-clause-tokens
returns-then-place-bytes-clause-tokens c =
    last_word_is c.args.bytes.now (sym c.if-place-bytes.true ∙ c.blank_place-place.ensures.place)

pub returns-clause-tokens : goal.returns-clause-tokens
returns-clause-tokens c =
    rw rest_from (word_is c.args.bytes.now c.blank_place-place.result c.blank_place-place.ensures.place (omega arith))
