use Rattle.std.proofs.Common.{arith, sym, ◌∙◌}
use Rattle.text_numbers.proofs.Digits.{too_great}
use Rattle.text_numbers.proofs.numbers.size_of.Goals as goal

pub returns-then-digit-size : goal.returns-then-digit-size
returns-then-digit-size c = sym (too_great c.loop-byte.size c.args.digits.now c.loop-byte.byte-index (omega arith) (omega arith)) ∙ c.loop-byte.invariant.same
