use Rattle.std.proofs.Common.{[]}
use Rattle.job_gen.specs.pair_gen.Sketch.{IsSketch}
use Rattle.job_gen.proofs.pair_gen.sketch.add_inputs.Given as goal

abbrev pub invariant-loop-column : goal.invariant-loop-column
invariant-loop-column l = IsSketch l.plan.circuit l.plan.regroup l.plan.words.now [] l.maker l.column 0 0
