use Rattle.std.proofs.Common.{◌≡◌, length}
use Rattle.flatten.proofs.connectivity.StepTables.{AreBack}
use Rattle.flatten.proofs.connectivity.sources.one_back.Given as goal

abbrev pub invariant-loop-signal : goal.invariant-loop-signal
invariant-loop-signal l = record { len : length l.at.items ≡ l.signal; back : AreBack l.froms l.at.items }
