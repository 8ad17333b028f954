-- What a sequence shows that was found, and nets without some outputs.
use Rattle.std.specs.Prelude.{IfSome}
use Rattle.std.proofs.Common.{ℕ, Bool, not, List, length, Option, Some, None}
use Rattle.base_tables.specs.Table.{is_among}
use Rattle.flat_net.specs.Comparable.{IsComparable}
use Rattle.flat_net.specs.View.{NetView}
use Rattle.witness_report.specs.declared.witness.Witness.{Witness}
use Rattle.net_names.proofs.Comparing.{showing_comparable}
use Rattle.cycle_search.specs.declared.found.Searched.{Searched}
use Rattle.restart.specs.Sequence.{IsShownBehind}
use Rattle.job_after.specs.Judged.{GoesOnAsFound}
use Rattle.job_after.specs.Shown.{IsShownBy, AreWithout}

module _ (Finds : Searched → Type 0) (a b : NetView) (names : List (List ℕ)) (rows : List (List Bool)) where
  -- what the sequence shows that a search found
  pub shown_as_found : (s : Searched) → Finds s → (shown : Option Witness) → IfSome shown (IsShownBehind a b names rows) → IfSome shown (GoesOnAsFound (length rows) s.verdict) → IfSome shown (IsShownBy Finds a b names rows)
  shown_as_found s finds None is on = tt
  shown_as_found s finds (Some w) is on = record { shown = is; searched = s; finds = finds; goes_on = on }

  -- whatever search found it, it is shown
  pub shown_anyhow : (shown : Option Witness) → IfSome shown (IsShownBy Finds a b names rows) → IfSome shown (IsShownBehind a b names rows)
  shown_anyhow None is = tt
  shown_anyhow (Some w) is = is.shown

-- both nets can be compared without some outputs
pub without_comparable : (a b l r : NetView) → AreWithout a b l r → IsComparable a → IsComparable b → IsComparable l × IsComparable r
without_comparable a b l r are left right = (showing_comparable (λ o. not (is_among are.names o)) a l are.left left, showing_comparable (λ o. not (is_among are.names o)) b r are.right right)
