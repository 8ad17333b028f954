use Rattle.std.proofs.Common.{◌≡◌, ◌-◌, ◌++◌, length, take}
use Rattle.aig.specs.lane_eval.circuit_theory.Query.{bits_of}
use Rattle.pair_decide.proofs.table.put_bits.Given as goal

abbrev pub invariant-loop-bit : goal.invariant-loop-bit
invariant-loop-bit l = take l.bit-index l.bits ++ bits_of l.rest (length l.bits - l.bit-index) ≡ bits_of l.number (length l.bits)
