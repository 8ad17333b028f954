use Rattle.std.proofs.Common.{◌≢◌, ◌<◌, ℕ, get_or}
use Rattle.base_shelves.proofs.mem_shelf.is_among.Given as goal

abbrev pub invariant-loop-call : goal.invariant-loop-call
invariant-loop-call l = (k : ℕ) → k < l.call-index → get_or l.calls k 0 ≢ l.number
