use Rattle.latch_kinds.proofs.enable_laws.Depending.{bits_count}
use Rattle.latch_kinds.proofs.enable_laws.bits_count_their_latches.Goals as goal

pub returns : goal.returns
returns c = bits_count
