-- What it means that an outcome fits two circuits, in the plain form.
use Rattle.std.specs.Prelude.{◌≡◌, ℕ, ◌≤◌, Bool, List, map, length, None}
use Rattle.circuit_theory.specs.Agree.{cut}
use Rattle.circuit_theory.specs.Circuit.{Circuit}
use Rattle.circuit_theory.specs.Interface.{shared_inputs, AreNumbersOf}
use Rattle.circuit_theory.specs.Sizes.{IsWeight, IsOver}
use Rattle.sec_setup.specs.sec_base.TheConstants.{MAX_WEIGHT}
use Rattle.sec_setup.specs.flat_net.View.{NetView, circuit_of, ports_of}
use Rattle.obligations.specs.declared.outcome.verdict.Outcome.{Outcome}
use Rattle.sec_setup.specs.Cuts.{IsChoice, AreCutAt, columns_of, is_cut}
use Rattle.sec_setup.specs.ports.Pairs.{outputs_of, named_pairs}
use Rattle.outcome_fits.specs.Outcome.{PairsFit, VerdictFits, greatest_size}

-- the unfoldings of all outputs weigh at most 2,000,000 together
abbrev pub IsLight : NetView → Type 0
IsLight n = (w : ℕ) × IsWeight (circuit_of n) (outputs_of n) w × (w ≤ MAX_WEIGHT)

-- or more
abbrev pub IsTooLarge : NetView → Type 0
IsTooLarge n = IsOver (circuit_of n) (outputs_of n) MAX_WEIGHT

-- the places of the outputs of the circuit with the latches of these names cut out
abbrev pub cut_outputs : {P : Type 0} → List (List ℕ) → Circuit P → List P
cut_outputs names c = map (λ o. o.place) (cut names c).outputs

-- the unfoldings of all these outputs weigh more than 2,000,000 together
abbrev pub IsCutOver : {P : Type 0} → List (List ℕ) → Circuit P → Type 0
IsCutOver names c = IsOver (cut names c) (cut_outputs names c) MAX_WEIGHT

-- or at most that
abbrev pub IsCutLight : {P : Type 0} → List (List ℕ) → Circuit P → Type 0
IsCutLight names c = (w : ℕ) × IsWeight (cut names c) (cut_outputs names c) w × (w ≤ MAX_WEIGHT)

-- The outcome fits the circuits: the counts, no assumption, the exposed names, the pairs in order with their answers over both circuits
-- as they are cut, and the verdict.
pub record OutcomeFits (a b : NetView) (expose : Bool) (conflicts : ℕ) (o : Outcome) : Type 0 where
  pub left_cut : NetView
  pub right_cut : NetView
  pub exposed : IsChoice a b expose o.exposed
  pub are_cut : AreCutAt a b o.exposed left_cut right_cut
  pub left : List ℕ
  pub right : List ℕ
  pub left_numbers : AreNumbersOf (ports_of left_cut).inputs (columns_of a b o.exposed) left right
  pub right_numbers : AreNumbersOf (ports_of right_cut).inputs (columns_of a b o.exposed) right left
  pub inputs : o.inputs ≡ length (shared_inputs (ports_of a) (ports_of b))
  pub left_latches : o.left_latches ≡ length a.latches
  pub right_latches : o.right_latches ≡ length b.latches
  pub assumed : o.assumed ≡ None
  pub classes : o.classes ≡ 0
  pub pairs : PairsFit (circuit_of left_cut) (circuit_of right_cut) left right (is_cut o.exposed) conflicts (named_pairs o.exposed (circuit_of a) (circuit_of b)) o.pairs
  pub through : o.through ≡ greatest_size o.pairs
  pub verdict_is : VerdictFits (circuit_of left_cut) (circuit_of right_cut) left right (columns_of a b o.exposed) (named_pairs o.exposed (circuit_of a) (circuit_of b)) o.pairs o.verdict
