use Rattle.std.proofs.Common.{◌≡◌, ℕ, false, length, take, get_or}
use Rattle.pair_decide.specs.Queries.{assigned_to}
use Rattle.cbf_unfold.proofs.shift_variables.rows.bits_at.Given as goal

abbrev pub invariant-loop-k : goal.invariant-loop-k
invariant-loop-k l = record { long : length l.made.items ≡ l.size; written : (n : ℕ) → get_or l.made.items n false ≡ assigned_to (take l.k l.numbers) (take l.k l.bits) n }
