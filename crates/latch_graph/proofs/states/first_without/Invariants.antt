use Rattle.std.proofs.Common.{◌≡◌, ℕ, ◌<◌, slice_get, Some}
use Rattle.signal_graph.specs.flat_net.Signal.{Signal}
use Rattle.latch_graph.specs.Settling.{HasDepth}
use Rattle.latch_graph.proofs.states.first_without.Given as goal

abbrev pub invariant-loop-read : goal.invariant-loop-read
invariant-loop-read l = (k : ℕ) (r : Signal) → k < l.read → slice_get l.reads k ≡ Some r → (e : ℕ) × HasDepth l.states r.0 e
