use Rattle.std.proofs.Common.{◌≡◌, map, drop}
use Rattle.blif_read.specs.Spelled.{with_new}
use Rattle.blif_read.proofs.names.add_new.Given as goal

abbrev pub invariant-loop-name : goal.invariant-loop-name
invariant-loop-name l = with_new l.initial.table (map (λ n. n.now) l.names) ≡ with_new l.table (map (λ n. n.now) (drop l.name-index l.names))
