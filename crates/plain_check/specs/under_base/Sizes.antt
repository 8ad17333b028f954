-- An assumption that is too large for the comparison of two circuits.
use Rattle.std.specs.Prelude.{ℕ, Bool, List, [], map}
use Rattle.circuit_theory.specs.Agree.{cut}
use Rattle.circuit_theory.specs.Interface.{AreNumbersOf}
use Rattle.flat_net.specs.View.{NetView, circuit_of, ports_of}
use Rattle.sec_base.specs.declared.settings.Settings.{Settings}
use Rattle.outcome_fits.specs.Cuts.{IsChoice, StandInOrder, columns_of}
use Rattle.sec_setup.specs.Cycles.{AreBroken}
use Rattle.outcome_fits.specs.Pairs.{named_pairs}
use Rattle.circuit_laws.specs.reset_laws.Reset.{AreBased}
use Rattle.outcome_fits.specs.Fitting.{IsCutLight}
use Rattle.plain_check.specs.under_base.under_fits.Places.{IsOverAtPairs}
use Rattle.plain_check.specs.under_base.under_fits.ResetPlaces.{IsOverInCycles}
use Rattle.plain_check.specs.under_base.under_fits.ResetOutcome.{numbers_of}
use Rattle.plain_check.specs.under_base.compare_base.Compared.{ByReset}
use Rattle.plain_check.specs.under_base.compare_base.FromReset.{IsLeftLight, IsRightLight}
use Rattle.assume_laws.specs.declared.assume_shape.shape.ShapeFault.{ShapeFault}
use Rattle.assume_laws.specs.declared.assume_shape.shape.ShapeFault.TheVariants as fault
use Rattle.plain_check.specs.under_base.Met.{shared_by, IsMet}

-- With the latches of a choice of names cut out, which stand in A's order, both unfoldings are light, and an assumption of this weight
-- weighs more than 2,000,000 at all places of the pairs' variables, with one more for each place of each pair.
pub record IsOverCut (a b : NetView) (expose : Bool) (weight : ℕ) : Type 0 where
  pub names : List (List ℕ)
  pub choice : IsChoice a b expose names
  pub in_order : StandInOrder a names
  pub left_light : IsCutLight names (circuit_of a)
  pub right_light : IsCutLight names (circuit_of b)
  pub left : List ℕ
  pub right : List ℕ
  pub left_numbers : AreNumbersOf (map (λ i. i.name) (cut names (circuit_of a)).inputs) (columns_of a b names) left right
  pub right_numbers : AreNumbersOf (map (λ i. i.name) (cut names (circuit_of b)).inputs) (columns_of a b names) right left
  pub over : IsOverAtPairs weight (cut names (circuit_of a)) (cut names (circuit_of b)) left right (named_pairs names (circuit_of a) (circuit_of b))

-- The same from the initial values, where no latch is cut out: in all cycles of the pairs' variables, with one more for each of these of
-- each pair in each cycle up to its depth.
pub record IsOverFromReset (a b : NetView) (weight : ℕ) : Type 0 where
  pub left_light : IsLeftLight a b
  pub right_light : IsRightLight a b
  pub left : List ℕ
  pub right : List ℕ
  pub left_numbers : AreNumbersOf (ports_of a).inputs (shared_by a b) left right
  pub right_numbers : AreNumbersOf (ports_of b).inputs (shared_by a b) right left
  pub left_base : ℕ
  pub right_base : ℕ
  pub based : AreBased (circuit_of a) (circuit_of b) left right left_base right_base
  pub over : IsOverInCycles weight (numbers_of a b left right left_base right_base) (named_pairs [] (circuit_of a) (circuit_of b))

-- C is too large for the comparison, which is told where all before has passed; no other fault comes of it
abbrev pub IsTooLargeUnder : NetView → NetView → NetView → Settings → ShapeFault → Type 0
IsTooLargeUnder a b c settings fault.TooLarge =
    (met : IsMet a b c) × AreBroken a b settings.expose × ByReset settings.reset (IsOverCut a b settings.expose met.assumed.weight) (IsOverFromReset a b met.assumed.weight)
IsTooLargeUnder a b c settings other = ⊥
