use Rattle.std.proofs.Common.{[], sym, subst}
use Rattle.flat_net.specs.Makes.{MakerView}
use Rattle.job_gen.specs.pair_gen.Sketch.{IsSketch}
use Rattle.job_gen.proofs.pair_gen.Drawn.{sketch_none}
use Rattle.job_gen.proofs.pair_gen.sketch.add_cells.Goals as goal

pub add_inputs-requires : goal.add_inputs-requires
add_inputs-requires c =
    subst (λ (m : MakerView). IsSketch c.args.plan.now.circuit c.args.plan.now.regroup c.args.plan.now.words.now [] m 0 0 0) (sym c.requires.empty)
    (sketch_none c.args.plan.now.circuit c.args.plan.now.regroup c.args.plan.now.words.now)
