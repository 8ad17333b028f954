use Rattle.std.proofs.Common.{[]}
use Rattle.job_gen.specs.pair_gen.Sketch.{IsSketch}
use Rattle.job_gen.proofs.pair_gen.sketch.add_latches.Given as goal

abbrev pub invariant-loop-place : goal.invariant-loop-place
invariant-loop-place l = IsSketch l.plan.circuit l.plan.regroup l.plan.words.now [] l.maker 40 l.place 0
