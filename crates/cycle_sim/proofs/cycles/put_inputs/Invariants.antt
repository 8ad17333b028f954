use Rattle.cycle_sim.proofs.Values.{InputsBelow}
use Rattle.cycle_sim.proofs.cycles.put_inputs.Given as goal

abbrev pub invariant-loop-i : goal.invariant-loop-i
invariant-loop-i l = InputsBelow l.net l.inputs l.values l.i
