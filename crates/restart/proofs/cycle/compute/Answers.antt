-- The gates come behind the inputs and the latches.
use Rattle.restart.proofs.cycle.compute.Goals as goal

pub returns-clause-cycle : goal.returns-clause-cycle
returns-clause-cycle c =
    c.put_gates.ensures.put c.args.columns.now c.args.row.now c.args.latches.now (c.put_latches.ensures.inputs c.args.columns.now c.args.row.now c.put_inputs.ensures.put) c.put_latches.ensures.put
