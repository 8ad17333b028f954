use Rattle.obligations.specs.Agreed.{IsRemade}
use Rattle.obligations.proofs.carries.remade_by.Given as goal

abbrev pub invariant-loop-n : goal.invariant-loop-n
invariant-loop-n l = IsRemade l.old l.remade l.n
