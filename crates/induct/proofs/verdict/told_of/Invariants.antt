use Rattle.induct.specs.Inductions.{IsTold}
use Rattle.induct.proofs.verdict.told_of.Given as goal

abbrev pub invariant-loop-pair : goal.invariant-loop-pair
invariant-loop-pair l = IsTold l.yielded l.told
