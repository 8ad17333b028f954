use Rattle.std.proofs.Common.{◌≡◌}
use Rattle.signal_refine.specs.Asking.{AreKnown}
use Rattle.signal_refine.proofs.facts.Facts.reach.Given as goal

abbrev pub invariant-loop-n : goal.invariant-loop-n
invariant-loop-n l = record { aig : l.self.aig ≡ l.initial.self.aig; known : AreKnown l.self }
