-- Depths of signals where no latch lies on a cycle.
use Rattle.std.proofs.Common.{◌≡◌, ◌<◌, ℕ, length, Some, slice_get}
use Rattle.circuit_theory.specs.declared.Mode.TheVariants.{Event}
use Rattle.circuit_theory.specs.Depth.{HasNoDepth}
use Rattle.circuit_theory.specs.Run.{IsEnabled}
use Rattle.flat_net.specs.declared.parts.Driver.TheVariants as driver
use Rattle.flat_net.specs.declared.parts.LatchAt.{LatchAt}
use Rattle.flat_net.specs.Sound.{IsSound}
use Rattle.flat_net.specs.View.{NetView, circuit_of}
use Rattle.flat_net.proofs.Nets.{sound_is_net}
use Rattle.std.proofs.lemmas.Option.{slice_get_within}
use Rattle.signal_graph.specs.Graph.{GraphView, IsGraphIn, IsGraphOf, SkippedBy}
use Rattle.latch_graph.proofs.NoDepth.{no_depth_cycle}
use Rattle.latch_graph.proofs.Skipping.{mode_no_depth}
use Rattle.event_setup.specs.Choosing.{IsAcyclic}

-- each signal has a depth
pub has_depth : (n : NetView) (g : GraphView) → IsGraphIn Event n g → IsAcyclic n → (s : ℕ) → ((m : NetView) → IsGraphOf m g → HasNoDepth (circuit_of m) (SkippedBy g) s) → ⊥
has_depth n g is free s endless =
    free (no_depth_cycle (circuit_of n) (IsEnabled (circuit_of n)) (length n.drivers) (sound_is_net n is.graph.sound) s (mode_no_depth Event n g is s (endless n is.graph)))

-- a latch drives a signal of the net
pub out_there : (n : NetView) → IsSound n → (j : ℕ) (l : LatchAt) → slice_get n.latches j ≡ Some l → l.out.0 < length n.drivers
out_there n sound j l at = slice_get_within n.drivers l.out.0 (driver.Latch j) (sound.latches j l at).owner
