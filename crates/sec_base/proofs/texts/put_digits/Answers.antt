-- One digit more.
use Rattle.std.proofs.Common.{List, Bool, false, ◌∙◌, ◌++◌, ap, map}
use Rattle.std.proofs.lemmas.List.{take_all}
use Rattle.sec_base.specs.Texts.{digit_of}
use Rattle.sec_base.proofs.Pieces.{digits_more}
use Rattle.sec_base.proofs.texts.put_digits.Goals as goal

pub loop-bit-preserved : goal.loop-bit-preserved
loop-bit-preserved c =
    digits_more c.args.text.now.items c.loop-bit.text.items c.push.new.self.items c.args.bits.now c.loop-bit.bit-index c.digit_of.result false c.loop-bit.invariant c.loop-bit-test.true c.digit_of.ensures c.in_ok-push.ensures.items

pub returns : goal.returns
returns c = c.loop-bit.invariant ∙ ap (λ (bits : List Bool). c.args.text.now.items ++ map digit_of bits) (take_all c.loop-bit.bit-index c.args.bits.now c.loop-bit-test.false)
