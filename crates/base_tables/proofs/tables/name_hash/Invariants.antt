use Rattle.std.proofs.Common.{◌≡◌, drop}
use Rattle.base_tables.specs.Hashed.{hash_after}
use Rattle.base_tables.proofs.tables.name_hash.Given as goal

abbrev pub invariant-loop-byte : goal.invariant-loop-byte
invariant-loop-byte l = hash_after 0xCBF2_9CE4_8422_2325 l.name ≡ hash_after l.state (drop l.byte-index l.name)
