use Rattle.job_gen.specs.pair_gen.Sketch.{IsTied}
use Rattle.job_gen.proofs.pair_gen.sketch.set_nexts.Given as goal

abbrev pub invariant-loop-place : goal.invariant-loop-place
invariant-loop-place l = IsTied l.plan.circuit l.initial.maker l.maker l.place
