use Rattle.sec_setup.specs.cut_points.expose_pick.Bits.{AreBits}
use Rattle.sec_setup.proofs.cut_points.expose_pick.remaining_cycle.set_all.Given as goal

abbrev pub invariant-loop-i : goal.invariant-loop-i
invariant-loop-i l = AreBits l.bits l.positions l.i
