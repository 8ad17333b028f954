-- Sequential depths of a net's signals, by their numbers.
use Rattle.std.specs.Prelude.{ℕ, ◌<◌, List, length, slice_index_or}
use Rattle.circuit_theory.specs.Depth.{IsDepth}
use Rattle.circuit_theory.specs.Run.{IsEnabled}
use Rattle.flat_net.specs.View.{NetView, circuit_of}

-- each signal has its depth in the list, where self-edges of enabled latches don't count
abbrev pub AreDepths : NetView → List ℕ → Type 0
AreDepths n depths = (s : ℕ) → s < length n.drivers → IsDepth (circuit_of n) (IsEnabled (circuit_of n)) s (slice_index_or depths s 0)
