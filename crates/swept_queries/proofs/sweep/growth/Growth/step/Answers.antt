use Rattle.std.proofs.Common.{sym, subst}
use Rattle.swept_queries.specs.node_agreement.Standing.{AreChosen}
use Rattle.swept_queries.proofs.sweep.growth.Growth.step.Goals as goal

pub prove_by-requires-clause-chosen : goal.prove_by-requires-clause-chosen
prove_by-requires-clause-chosen c = subst (AreChosen c.args.self.now.graph) (sym c.as_slice-chosen.ensures.value) c.requires.chosen
