-- Latches that count as enabled by a list of their places.
use Rattle.std.specs.Prelude.{◌≡◌, ℕ, suc, ◌<◌, Bool, true, List, [], ◌∷◌}
use Rattle.circuit_theory.specs.declared.Mode.TheVariants.{Plain, Event}
use Rattle.circuit_theory.specs.Depth.{HasCycle}
use Rattle.circuit_theory.specs.Run.{IsRun, Marked}
use Rattle.latch_kinds.specs.enable_laws.Enabled.{Enabling, Counts, CountTheSame}
use Rattle.call_rows.specs.circuit_samples.event_samples.Samples.{before, exposed}

-- the places of q and r
abbrev pub loading : List ℕ
loading = 3 ∷ 5 ∷ []

-- The list says the same as the event mode, and the empty one the same as the plain mode. So, where latches count by the list, a cycle is
-- left, but none without t, and where e is 1 in a run z is marked in the next cycle.
pub record CountByPlaces : Type 0 where
  pub event : CountTheSame before (Enabling.in_mode Event) (Enabling.at_places loading)
  pub plain : CountTheSame before (Enabling.in_mode Plain) (Enabling.at_places [])
  pub cycle : HasCycle before (Counts (Enabling.at_places loading) before) []
  pub free : HasCycle before (Counts (Enabling.at_places loading) before) exposed → ⊥
  pub marks : (n : ℕ) (run : ℕ → ℕ → Bool) → IsRun before n run → (t : ℕ) → t < n → run t 0 ≡ true → Marked before (Counts (Enabling.at_places loading) before) run (suc t) 9
