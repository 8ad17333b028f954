use Rattle.std.proofs.Common.{◌≡◌, ◌<◌, ℕ, List, length, slice_get, Some}
use Rattle.net_names.proofs.new_names.longer_name.Given as goal

abbrev pub invariant-loop-id : goal.invariant-loop-id
invariant-loop-id l = (i : ℕ) (n : List ℕ) → slice_get l.names i ≡ Some n → i < l.id → length n < length l.name.items
