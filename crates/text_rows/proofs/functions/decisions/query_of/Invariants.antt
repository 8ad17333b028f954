use Rattle.std.proofs.Common.{◌≡◌, ℕ, ◌<◌, length, slice_get, Some}
use Rattle.text_rows.proofs.functions.decisions.query_of.Given as goal

abbrev pub invariant-loop-variable : goal.invariant-loop-variable
invariant-loop-variable l = record { count : length l.vars ≡ l.variable; each : (k : ℕ) → k < l.variable → slice_get l.vars k ≡ Some k }
