use Rattle.std.proofs.Common.{◌≡◌, drop}
use Rattle.std.specs.List.{list_any}
use Rattle.blif_read.specs.Fault.{is_control}
use Rattle.blif_read.proofs.head.any_control.Given as goal

abbrev pub invariant-loop-token : goal.invariant-loop-token
invariant-loop-token l = list_any (λ t. list_any is_control t.now) l.tokens ≡ list_any (λ t. list_any is_control t.now) (drop l.token-index l.tokens)
