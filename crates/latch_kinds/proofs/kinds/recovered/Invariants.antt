use Rattle.std.proofs.Common.{◌≡◌, length}
use Rattle.latch_kinds.proofs.Decided.{AreDecided}
use Rattle.latch_kinds.proofs.kinds.recovered.Given as goal

abbrev pub invariant-loop-j : goal.invariant-loop-j
invariant-loop-j l = record {
  size : length l.kinds ≡ l.j;
  decided : AreDecided l.net l.kinds;
}
