use Rattle.std.proofs.Common.{◌≡◌, ◌-◌, ◌++◌, length, take}
use Rattle.circuit_theory.specs.Query.{bits_of}
use Rattle.swept_queries.proofs.node_agreement.table.put_bits.Given as goal

abbrev pub invariant-loop-bit : goal.invariant-loop-bit
invariant-loop-bit l = take l.bit-index l.bits ++ bits_of l.rest (length l.bits - l.bit-index) ≡ bits_of l.number (length l.bits)
