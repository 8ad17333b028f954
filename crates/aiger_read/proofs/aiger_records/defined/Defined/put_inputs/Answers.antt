use Rattle.std.proofs.Common.{◌+◌, ◌*◌, arith}
use Rattle.aiger_read.proofs.aiger_records.DefinedOnce.{input_is_new}
use Rattle.aiger_read.proofs.aiger_records.defined.Defined.put_inputs.Goals as goal

pub put-requires-clause-new : goal.put-requires-clause-new
put-requires-clause-new c = input_is_new c.loop-before.self.records c.loop-before.before (2 * (c.loop-before.before + 1)) c.loop-before.invariant.records (omega arith)
