-- One bit is put, and the rest of the number gives the bits above it.
use Rattle.std.proofs.Common.{◌<◌, length, refl, arith}
use Rattle.pair_decide.proofs.Numbered.{bits_of-step}
use Rattle.swept_queries.proofs.node_agreement.table.put_bits.Goals as goal

pub loop-bit-preserved : goal.loop-bit-preserved
loop-bit-preserved c =
    let within : c.loop-bit.bit-index < length c.loop-bit.bits = omega arith in
    bits_of-step c.loop-bit.bits c.loop-bit.bit-index c.loop-bit.rest c.args.number _ within refl c.loop-bit.invariant
