-- A latch that loads under an input, by a cover of very many rows.
use Rattle.std.specs.Prelude.{◌≡◌, ℕ, true, List, [], ◌∷◌, Some, slice_get, codes, All, Contains, replicate}
use Rattle.circuit_theory.specs.declared.Side.TheVariants.{A}
use Rattle.circuit_theory.specs.Cover.{Cover}
use Rattle.circuit_theory.specs.EventSizes.{Start, IsEventOver}
use Rattle.circuit_theory.specs.Joined.{Left}
use Rattle.flat_net.specs.Sound.{IsSound}
use Rattle.event_nodes.specs.View.{EventCircuitView, side_of, Enabled}
use Rattle.event_nodes.specs.Visited.{IsVisitedPair}
use Rattle.edbf_unfold.specs.event_literals.event_walk.Walk.{enable_start}
use Rattle.event_classes.specs.event_functions.class_totals.Laws.{nothing}
use Rattle.event_classes.specs.event_functions.class_totals.Totals.{HaveCounted, WeighTooMuch}
use Rattle.call_rows.specs.circuit_samples.event_samples.Samples.{same_cover}
use Rattle.premise_rows.specs.event_pair_premises.Held.{holding, with_class, loads_a}
use Rattle.premise_rows.specs.event_class_premises.Totals.{q_latch}

-- so many rows, each of which says that e and a are 1
unfoldable pub load_rows : ℕ → List (List ℕ)
load_rows n = replicate n (codes "11-")

-- where e is 0, the latch keeps its value
abbrev pub heavy_cover : Cover
heavy_cover = record { width = 3; rows = codes "0-1" ∷ load_rows 500000; on = true }

abbrev pub heavy : EventCircuitView
heavy = with_class (holding heavy_cover same_cover)

-- What the latch takes over weighs 2,000,005 by itself, whatever else is unfolded.
pub record HeavyMeetsPremises : Type 0 where
  pub sound : IsSound heavy.net
  pub other_sound : IsSound loads_a.net
  pub at : slice_get heavy.net.latches 0 ≡ Some q_latch
  pub begins : HaveCounted heavy loads_a [] [] nothing nothing
  pub over : (starts : List (Start ℕ)) → Contains starts (enable_start q_latch) → All (IsVisitedPair heavy [] starts) nothing.places → IsEventOver (side_of heavy) (Enabled heavy) starts 2000000
  pub too_heavy : WeighTooMuch A heavy loads_a (Left 2 ∷ [])
