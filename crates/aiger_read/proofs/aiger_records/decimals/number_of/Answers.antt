use Rattle.std.proofs.Common.{sym, ◌∙◌}
use Rattle.aiger_read.proofs.aiger_records.Words.{digit_more, no_digit}
use Rattle.aiger_read.proofs.aiger_records.decimals.number_of.Goals as goal

pub loop-byte-preserved : goal.loop-byte-preserved
loop-byte-preserved c =
    c.loop-byte.invariant ∙ digit_more c.loop-byte.number c.args.bytes.now c.loop-byte.byte-index c.in_ok-number.number c.loop-byte-test.true (sym c.with_digit.ensures ∙ c.in_ok-number.was)

pub returns-in_err-number : goal.returns-in_err-number
returns-in_err-number c =
    c.from_residual.ensures ∙ sym (c.loop-byte.invariant ∙ no_digit c.loop-byte.number c.args.bytes.now c.loop-byte.byte-index c.loop-byte-test.true (sym c.with_digit.ensures ∙ c.in_err-number.was))
