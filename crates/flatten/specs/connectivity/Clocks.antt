-- Nets of clocks and of readers, by the table of nets.
use Rattle.std.specs.Prelude.{◌≡◌, ◌≢◌, ℕ, ◌<◌, List, Option, Some, None, slice_get}
use Rattle.std.specs.List.{Contains}

-- the i-th signal has the net
pub record NetIsAt (nets : List (Option ℕ)) (signals : List ℕ) (i net : ℕ) : Type 0 where
  pub signal : ℕ
  pub here : slice_get signals i ≡ Some signal
  pub leads : slice_get nets signal ≡ Some (Some net)

-- the signals that have a net have this one
abbrev pub AreOneNet : List (Option ℕ) → List ℕ → Option ℕ → Type 0
AreOneNet nets signals None = (i net : ℕ) → NetIsAt nets signals i net → ⊥
AreOneNet nets signals (Some clock) = ((i : ℕ) × NetIsAt nets signals i clock) × ((i net : ℕ) → NetIsAt nets signals i net → net ≡ clock)

-- the net of the i-th signal differs from that of a signal before
pub record OtherNet (nets : List (Option ℕ)) (signals : List ℕ) (i net : ℕ) : Type 0 where
  pub own : NetIsAt nets signals i net
  pub earlier : ℕ
  pub other : ℕ
  pub before : earlier < i
  pub theirs : NetIsAt nets signals earlier other
  pub apart : net ≢ other

-- one of the signals is of the net
abbrev pub ReadsNet : List (Option ℕ) → ℕ → List ℕ → Type 0
ReadsNet nets net reads = (signal : ℕ) × Contains reads signal × (slice_get nets signal ≡ Some (Some net))
