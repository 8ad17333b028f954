use Rattle.std.specs.Prelude.{◌≡◌, ◌++◌, map, take}
use Rattle.sec_base.specs.Texts.{digit_of}
use Rattle.sec_base.proofs.texts.put_digits.Given as goal

abbrev pub invariant-loop-bit : goal.invariant-loop-bit
invariant-loop-bit l = l.text.items ≡ l.initial.text.items ++ map digit_of (take l.bit-index l.bits)
