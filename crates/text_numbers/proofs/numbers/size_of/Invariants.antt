use Rattle.std.proofs.Common.{◌≡◌, ◌≤◌, drop}
use Rattle.text_numbers.specs.declared.numbers.TheConstants.{MAX_SIZE}
use Rattle.text_numbers.specs.Numbers.{size_of}
use Rattle.text_numbers.proofs.Digits.{size_after}
use Rattle.text_numbers.proofs.numbers.size_of.Given as goal

-- the number so far isn't too great, and the digits that are left decide
abbrev pub invariant-loop-byte : goal.invariant-loop-byte
invariant-loop-byte l = record {
  small : l.size ≤ MAX_SIZE;
  same : size_after l.size (drop l.byte-index l.digits) ≡ size_of l.digits;
}
