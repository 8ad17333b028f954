use Rattle.std.proofs.Common.{take}
use Rattle.flatten.specs.connectivity.Events.{IsNever, IsAt}
use Rattle.flatten.specs.connectivity.Tables.{IsOpenIn}
use Rattle.flatten.proofs.connectivity.drivers.first_open.Given as goal

abbrev pub invariant-loop-read : goal.invariant-loop-read
invariant-loop-read l = IsNever (IsAt (take l.read-index l.reads) (λ n. n) (IsOpenIn l.sources))
