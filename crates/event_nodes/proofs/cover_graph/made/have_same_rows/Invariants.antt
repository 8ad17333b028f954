use Rattle.std.proofs.Common.{◌≡◌, ℕ, ◌<◌, List, slice_index_or}
use Rattle.event_nodes.proofs.cover_graph.made.have_same_rows.Given as goal

abbrev pub invariant-loop-i : goal.invariant-loop-i
invariant-loop-i l = (k : ℕ) (d : List ℕ) → k < l.i → slice_index_or l.left k d ≡ slice_index_or l.right k d
