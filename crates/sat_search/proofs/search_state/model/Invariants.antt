use Rattle.std.proofs.Common.{◌≡◌, ◌+◌, ℕ, Bool, Some, length}
use Rattle.std.specs.Prelude.{slice_get}
use Rattle.sat_search.specs.Running.{IsBit}
use Rattle.sat_search.proofs.search_state.model.Given as goal

abbrev pub invariant-loop-index : goal.invariant-loop-index
invariant-loop-index l = (length l.bits ≡ l.index) × ((k : ℕ) (bit : Bool) → slice_get l.bits k ≡ Some bit → IsBit l.trail.entries (k + 1) bit)
