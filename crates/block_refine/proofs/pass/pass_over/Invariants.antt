use Rattle.block_refine.specs.Passes.{IsPass}
use Rattle.block_refine.proofs.pass.pass_over.Given as goal

abbrev pub invariant-loop-j : goal.invariant-loop-j
invariant-loop-j l = IsPass l.nets l.j l.pass
