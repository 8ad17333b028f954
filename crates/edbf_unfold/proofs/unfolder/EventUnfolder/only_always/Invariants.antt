use Rattle.std.proofs.Common.{◌≡◌, ◌<◌, ℕ, slice_get, Some}
use Rattle.event_nodes.specs.View.{side_of}
use Rattle.edbf_unfold.specs.Reached.{IsOpenPlace}
use Rattle.edbf_unfold.proofs.unfolder.EventUnfolder.only_always.Given as goal

abbrev pub invariant-loop-number : goal.invariant-loop-number
invariant-loop-number l = (i : ℕ) (p : ℕ × ℕ) → i < l.number → slice_get l.table i ≡ Some p → IsOpenPlace l.self.circuit l.self.frames p → (side_of l.self.circuit).class p.1 ≡ 0
