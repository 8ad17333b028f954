use Rattle.std.proofs.Common.{◌<◌, length, arith}
use Rattle.signal_refine.proofs.nets.SignalNets.spot.Goals as goal

pub overflow_cast-result-2 : goal.overflow_cast-result-2
overflow_cast-result-2 c = omega (arith, c.requires, c.if-place-size.false, c.size-size.ensures, c.keeps.ensures.sound.few)
