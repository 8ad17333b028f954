use Rattle.sat_search.proofs.Choosing.{AreValued}
use Rattle.sat_search.proofs.activity.first_free.Given as goal

abbrev pub invariant-loop-index : goal.invariant-loop-index
invariant-loop-index l = AreValued l.trail l.index
