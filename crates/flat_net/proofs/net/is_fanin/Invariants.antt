use Rattle.std.proofs.Common.{◌≡◌, drop}
use Rattle.std.specs.List.{list_any}
use Rattle.std.specs.Prelude.{◌==◌}
use Rattle.flat_net.proofs.net.is_fanin.Given as goal

abbrev pub invariant-loop-fanin : goal.invariant-loop-fanin
invariant-loop-fanin l = list_any (λ f. f.0 == l.signal.0) l.fanins ≡ list_any (λ f. f.0 == l.signal.0) (drop l.fanin-index l.fanins)
