use Rattle.flatten.proofs.connectivity.Turns.{input_turn, input_all}
use Rattle.flatten.proofs.connectivity.drivers.put_inputs.Goals as goal

pub loop-input-preserved : goal.loop-input-preserved
loop-input-preserved c = λ before start. input_turn before c.args.inputs.now c.loop-input.input-index c.loop-input.sources c.loop-input-test.true (c.loop-input.invariant before start)

pub returns-clause-put : goal.returns-clause-put
returns-clause-put c = λ before start. input_all before c.args.inputs.now c.loop-input.input-index c.loop-input.sources c.loop-input-test.false (c.loop-input.invariant before start)
