use Rattle.std.proofs.Common.{◌≡◌, ℕ, ◌||◌, List, take}
use Rattle.base_tables.specs.Table.{is_among}
use Rattle.elaborate.proofs.tables.add_all.Given as goal

abbrev pub invariant-loop-name : goal.invariant-loop-name
invariant-loop-name l = (name : List ℕ) → is_among l.table name ≡ (is_among l.initial.table name || is_among (take l.name-index l.names) name)
