use Rattle.signal_refine.specs.Asking.{AreKnown}
use Rattle.signal_refine.proofs.refinement.rounds.Given as goal

abbrev pub invariant-loop-n : goal.invariant-loop-n
invariant-loop-n l = AreKnown l.facts
