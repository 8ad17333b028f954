use Rattle.std.proofs.Common.{◌≡◌, take, slice_get, Some}
use Rattle.flatten.specs.connectivity.Events.{IsNever, IsAt}
use Rattle.flatten.proofs.connectivity.clocks.reads_net.Given as goal

abbrev pub invariant-loop-signal : goal.invariant-loop-signal
invariant-loop-signal l = IsNever (IsAt (take l.signal-index l.reads) (λ n. n) (λ n. slice_get l.nets n ≡ Some (Some l.net)))
