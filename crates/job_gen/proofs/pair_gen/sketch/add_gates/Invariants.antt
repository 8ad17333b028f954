use Rattle.job_gen.specs.pair_gen.Sketch.{IsSketch, covers_of}
use Rattle.job_gen.proofs.pair_gen.sketch.add_gates.Given as goal

abbrev pub invariant-loop-place : goal.invariant-loop-place
invariant-loop-place l = IsSketch l.plan.circuit l.plan.regroup l.plan.words.now (covers_of l.plan.circuit l.plan.regroup) l.maker 40 120 l.place
