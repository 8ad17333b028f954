use Rattle.std.proofs.Common.{◌≡◌, drop}
use Rattle.std.specs.List.{list_any}
use Rattle.std.specs.Prelude.{◌==◌}
use Rattle.flat_net.proofs.net.latches_read.Given as goal

abbrev pub invariant-loop-latch : goal.invariant-loop-latch
invariant-loop-latch l = list_any (λ k. k.next.0 == l.signal.0) l.latches ≡ list_any (λ k. k.next.0 == l.signal.0) (drop l.latch-index l.latches)
