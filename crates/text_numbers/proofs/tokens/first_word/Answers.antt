use Rattle.std.proofs.Common.{sym, ◌∙◌, arith}
use Rattle.text_numbers.proofs.Pieces.{word_is, last_word_is, rest_from}
use Rattle.text_numbers.proofs.tokens.first_word.Goals as goal

pub returns-then-place-line-clause-tokens : goal.returns-then-place-line-clause-tokens
returns-then-place-line-clause-tokens c =
    last_word_is c.args.line.now (sym c.if-place-line.true ∙ c.blank_place-place.ensures.place)

pub returns-clause-tokens : goal.returns-clause-tokens
returns-clause-tokens c =
    rw rest_from (word_is c.args.line.now c.blank_place-place.result c.blank_place-place.ensures.place (omega arith))
