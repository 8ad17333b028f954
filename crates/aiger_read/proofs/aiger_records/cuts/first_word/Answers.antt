use Rattle.std.proofs.Common.{sym, ◌∙◌, arith}
use Rattle.aiger_read.proofs.aiger_records.Words.{word_is, last_word_is, rest_from}
use Rattle.aiger_read.proofs.aiger_records.cuts.first_word.Goals as goal

pub returns-then-place-line : goal.returns-then-place-line
returns-then-place-line c = last_word_is c.args.line.now (sym c.if-place-line.true ∙ c.place_of-place.ensures.place)

pub returns : goal.returns
returns c = rw rest_from (word_is c.args.line.now c.place_of-place.result c.place_of-place.ensures.place (omega arith))
