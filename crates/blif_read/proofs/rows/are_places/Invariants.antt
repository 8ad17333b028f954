use Rattle.std.proofs.Common.{◌≡◌, drop}
use Rattle.std.specs.List.{list_all}
use Rattle.blif_read.specs.Rows.{is_place}
use Rattle.blif_read.proofs.rows.are_places.Given as goal

abbrev pub invariant-loop-byte : goal.invariant-loop-byte
invariant-loop-byte l = list_all is_place l.token ≡ list_all is_place (drop l.byte-index l.token)
