use Rattle.std.proofs.Common.{◌≡◌, ℕ, ◌||◌, take}
use Rattle.std.specs.List.{list_any}
use Rattle.elaborate.specs.Scopes.{is_long_behind, exceeds}
use Rattle.elaborate.proofs.tables.room_for.Given as goal

abbrev pub invariant-loop-name : goal.invariant-loop-name
invariant-loop-name l = (p : ℕ) → exceeds p l.room ≡ (exceeds p l.least || list_any (is_long_behind p) (take l.name-index l.names))
