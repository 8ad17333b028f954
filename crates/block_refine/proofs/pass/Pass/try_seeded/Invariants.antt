use Rattle.block_refine.specs.Passes.{IsPass}
use Rattle.block_refine.proofs.pass.Pass.try_seeded.Given as goal

abbrev pub invariant-loop-n : goal.invariant-loop-n
invariant-loop-n l = IsPass l.nets 0 l.self
