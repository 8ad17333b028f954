use Rattle.std.proofs.Common.{◌≡◌, drop}
use Rattle.std.specs.List.{list_any}
use Rattle.blif_read.specs.Fault.{is_control}
use Rattle.blif_read.proofs.head.has_control.Given as goal

abbrev pub invariant-loop-byte : goal.invariant-loop-byte
invariant-loop-byte l = list_any is_control l.token ≡ list_any is_control (drop l.byte-index l.token)
