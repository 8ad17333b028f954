use Rattle.std.proofs.Common.{◌≡◌, length}
use Rattle.cycle_sim.proofs.SomeGates.{BackBelow}
use Rattle.cycle_sim.proofs.flip.put_back.Given as goal

abbrev pub invariant-loop-j : goal.invariant-loop-j
invariant-loop-j l = record {
  size : length l.tried ≡ length l.net.drivers;
  back : BackBelow l.net l.gates l.values l.initial.tried l.tried l.j-index;
}
