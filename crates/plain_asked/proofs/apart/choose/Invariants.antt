use Rattle.plain_asked.specs.Apart.{AreChosen}
use Rattle.plain_asked.proofs.apart.choose.Given as goal

abbrev pub invariant-loop-i : goal.invariant-loop-i
invariant-loop-i l = AreChosen l.lefts l.rights l.xs l.ys l.i l.chosen
