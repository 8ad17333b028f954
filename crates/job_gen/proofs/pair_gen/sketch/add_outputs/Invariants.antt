use Rattle.std.proofs.Common.{◌≡◌}
use Rattle.flat_net.specs.Makes.{MakerView}
use Rattle.job_gen.specs.pair_gen.Sketch.{first_of, output_at}
use Rattle.job_gen.proofs.pair_gen.sketch.add_outputs.Given as goal

abbrev pub invariant-loop-column : goal.invariant-loop-column
invariant-loop-column l = ◌≡◌ {A = MakerView} l.maker (record l.initial.maker { net = record l.initial.maker.net { outputs = first_of (output_at l.plan.circuit) l.column } })
