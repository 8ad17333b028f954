use Rattle.std.proofs.Common.{◌≡◌, drop}
use Rattle.std.specs.List.{list_any}
use Rattle.blif_read.specs.Fault.{is_long}
use Rattle.blif_read.proofs.head.any_long.Given as goal

abbrev pub invariant-loop-name : goal.invariant-loop-name
invariant-loop-name l = list_any (λ n. is_long n.now) l.names ≡ list_any (λ n. is_long n.now) (drop l.name-index l.names)
