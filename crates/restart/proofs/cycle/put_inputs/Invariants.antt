use Rattle.restart.proofs.Bits.{InputsBelow}
use Rattle.restart.proofs.cycle.put_inputs.Given as goal

abbrev pub invariant-loop-i : goal.invariant-loop-i
invariant-loop-i l = InputsBelow l.net l.columns l.row l.values l.i
