-- A latch that one circuit settles and the other doesn't, exposed in both.
use Rattle.std.specs.Prelude.{ℕ, Bool, [], ◌∷◌, codes, None}
use Rattle.circuit_theory.specs.declared.Mode.TheVariants.{Event}
use Rattle.circuit_theory.specs.Circuit.{Circuit, Latch}
use Rattle.circuit_theory.specs.Run.{IsRun, IsEnabled}
use Rattle.circuit_theory.specs.Net.{IsNet, HasDistinctNames}
use Rattle.circuit_theory.specs.Agree.{cut, IsSettled, IsMinimalCut}
use Rattle.circuit_theory.specs.Joined.{Left, joined}
use Rattle.circuit_theory.specs.EventFits.{side_by_side}
use Rattle.circuit_theory.specs.EventSizes.{EventVisits}
use Rattle.call_rows.specs.circuit_samples.Circuits.{and_cover, toggle_with, toggled}

-- 0 a; 1 q, which takes it over
abbrev pub delayed : Circuit ℕ
delayed = record {
  inputs = record { name = codes "a"; place = 0 } ∷ [];
  outputs = record { name = codes "y"; place = 1 } ∷ [];
  equations = Latch (codes "q") 1 0 ∷ [];
  starts = [];
}

abbrev pub toggling : Circuit ℕ
toggling = toggle_with and_cover

-- q of the first circuit is settled and reads itself, an exposed name; a of the other is settled and doesn't
pub record HasSettledReader : Type 0 where
  pub left_net : IsNet delayed 2
  pub right_net : IsNet toggling 4
  pub left_names : HasDistinctNames delayed
  pub right_names : HasDistinctNames toggling
  pub minimal : IsMinimalCut Event delayed toggling toggled
  pub left : ℕ → ℕ → Bool
  pub right : ℕ → ℕ → Bool
  pub left_run : IsRun delayed 2 left
  pub right_run : IsRun toggling 2 right
  pub left_settled : IsSettled Event delayed left 1 1
  pub right_settled : IsSettled Event toggling right 1 0
  pub reads : EventVisits (side_by_side (cut toggled delayed) (cut toggled toggling) (0 ∷ 1 ∷ []) (0 ∷ 1 ∷ []) (λ p. 0)) (IsEnabled (joined (cut toggled delayed) (cut toggled toggling))) (record { place = Left 1; left_out = None } ∷ []) None (Left 1) []
