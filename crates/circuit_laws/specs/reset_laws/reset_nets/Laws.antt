-- What reset runs ask of a circuit holds of each net.
use Rattle.std.specs.Prelude.{◌≡◌, ◌≢◌, ℕ, length, Some, None, slice_get}
use Rattle.std.specs.List.{AllPairs, Contains}
use Rattle.circuit_theory.specs.Circuit.{Started}
use Rattle.circuit_theory.specs.Cone.{latches_of}
use Rattle.flat_net.specs.declared.parts.LatchAt.{LatchAt}
use Rattle.flat_net.specs.View.{NetView, circuit_of, start_of}
use Rattle.flat_net.specs.Sound.{IsSound}
use Rattle.circuit_laws.specs.reset_laws.Reset.{IsFree, HasStarts}

-- The circuit of a net has its latches in their order, each once, with their own initial values; a latch without one is free.
abbrev pub NetsHaveStarts : Type 0
NetsHaveStarts = (n : NetView) → IsSound n →
    HasStarts (circuit_of n) × AllPairs (λ u v. u ≢ v) (latches_of (circuit_of n)) × (length (latches_of (circuit_of n)) ≡ length n.latches)
    × ((j : ℕ) (l : LatchAt) → slice_get n.latches j ≡ Some l → slice_get (latches_of (circuit_of n)) j ≡ Some l.out.0)
    × ((j : ℕ) (l : LatchAt) (s : Started ℕ) → slice_get n.latches j ≡ Some l → start_of l.out.0 l.init ≡ Some s → Contains (circuit_of n).starts s)
    × ((j : ℕ) (l : LatchAt) → slice_get n.latches j ≡ Some l → start_of l.out.0 l.init ≡ None → IsFree (circuit_of n) l.out.0)
