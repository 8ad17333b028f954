use Rattle.std.proofs.Common.{◌≡◌, ◌<◌, ℕ, slice_get, Some}
use Rattle.signal_graph.specs.flat_net.Signal.{Signal}
use Rattle.latch_graph.specs.declared.states.State.TheVariants.{Endless}
use Rattle.latch_graph.proofs.rounds.endless_read.Given as goal

abbrev pub invariant-loop-k : goal.invariant-loop-k
invariant-loop-k l = (m : ℕ) (r : Signal) → m < l.k → slice_get l.reads m ≡ Some r → slice_get l.states r.0 ≡ Some Endless → ⊥
