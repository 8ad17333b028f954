use Rattle.std.proofs.Common.{◌≡◌, false, drop, get_or}
use Rattle.std.specs.List.{list_all}
use Rattle.cycle_sim.proofs.cycle_marks.are_marked.Given as goal

abbrev pub invariant-loop-fanin : goal.invariant-loop-fanin
invariant-loop-fanin l = list_all (λ f. get_or l.marks f.0 false) l.fanins ≡ list_all (λ f. get_or l.marks f.0 false) (drop l.fanin-index l.fanins)
