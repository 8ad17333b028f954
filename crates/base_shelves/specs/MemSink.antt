-- What a sink in memory took and counts.
use Rattle.std.specs.Prelude.{◌≢◌, ◌+◌, ◌-◌, ◌^◌, ◌≤◌, ℕ, min, List, length, Option, Some}

-- what it took, for how many bytes it has room, which write fails and keeps how many bytes at most, and its counts
pub record SinkState : Type 0 where
  pub taken : List ℕ
  pub room : ℕ
  pub fail_at : Option ℕ
  pub keep : ℕ
  pub calls : ℕ
  pub faults : ℕ

-- the number of the next write, from 1; it stays at the last value of its type
abbrev pub next_write : SinkState → ℕ
next_write sink = min (sink.calls + 1) (2 ^ 64 - 1)

-- there is room for the piece, and the next write isn't told to fail
abbrev pub Accepts : SinkState → List ℕ → Type 0
Accepts sink piece = (length sink.taken + length piece ≤ sink.room) × (sink.fail_at ≢ Some (next_write sink))
