-- What it means that an outcome fits two circuits in the plain form under an assumption.
use Rattle.std.specs.Prelude.{◌≡◌, ℕ, ◌<◌, ◌≤◌, Bool, List, [], length}
use Rattle.circuit_theory.specs.declared.Mode.TheVariants.{Plain}
use Rattle.circuit_theory.specs.Agree.{cut, IsPair, AreAlike, LatchesEqual}
use Rattle.circuit_theory.specs.Circuit.{Circuit}
use Rattle.circuit_theory.specs.Interface.{shared_inputs, AreNumbersOf}
use Rattle.flat_net.specs.View.{NetView, circuit_of, ports_of}
use Rattle.obligations.specs.declared.outcome.verdict.Outcome.{Outcome}
use Rattle.sec_setup.specs.Cuts.{IsChoice, AreCutAt, columns_of, is_cut}
use Rattle.sec_setup.specs.ports.Pairs.{named_pairs}
use Rattle.outcome_fits.specs.Outcome.{greatest_size}
use Rattle.assume_laws.specs.Assume.{Assumption, RunMeets, ReadsInputs, AgreeUnder, AgreeOnwardUnder}
use Rattle.plain_check.specs.under_base.under_fits.Verdict.{EachFitsUnder, VerdictFitsUnder}

-- The outcome fits the circuits under an assumption that reads inputs of both: the counts, the exposed names, the pairs in order with their
-- answers over both circuits as they are cut, and the verdict. A sequence holds this row where it has no variable of both sides.
pub record OutcomeFitsUnder (c : Assumption) (meeting : ℕ → Bool) (a b : NetView) (expose : Bool) (conflicts : ℕ) (o : Outcome) : Type 0 where
  pub left_cut : NetView
  pub right_cut : NetView
  pub exposed : IsChoice a b expose o.exposed
  pub are_cut : AreCutAt a b o.exposed left_cut right_cut
  pub left : List ℕ
  pub right : List ℕ
  pub left_numbers : AreNumbersOf (ports_of left_cut).inputs (columns_of a b o.exposed) left right
  pub right_numbers : AreNumbersOf (ports_of right_cut).inputs (columns_of a b o.exposed) right left
  pub reads : ReadsInputs c (cut o.exposed (circuit_of a)) left
  pub inputs : o.inputs ≡ length (shared_inputs (ports_of a) (ports_of b))
  pub left_latches : o.left_latches ≡ length a.latches
  pub right_latches : o.right_latches ≡ length b.latches
  pub classes : o.classes ≡ 0
  pub pairs : EachFitsUnder c (circuit_of left_cut) (circuit_of right_cut) left right (is_cut o.exposed) conflicts (named_pairs o.exposed (circuit_of a) (circuit_of b)) o.pairs
  pub through : o.through ≡ greatest_size o.pairs
  pub verdict_is : VerdictFitsUnder c (circuit_of left_cut) (circuit_of right_cut) left right (columns_of a b o.exposed) meeting (named_pairs o.exposed (circuit_of a) (circuit_of b)) o.pairs o.verdict

-- In any two runs with equal inputs that meet the assumption, in which the latches of these names are equal up to a cycle, they are equal for
-- ever, and each output is equal from that cycle on.
abbrev pub AgreeFromUnder : {P Q : Type 0} → Assumption → ℕ → List (List ℕ) → Circuit P → Circuit Q → Type 0
AgreeFromUnder {P} {Q} c from names a b =
    (n : ℕ) (left : ℕ → P → Bool) (right : ℕ → Q → Bool) → AreAlike a b n left right → RunMeets c a n left → from < n → LatchesEqual names a b left right (λ t. t ≤ from) →
    LatchesEqual names a b left right (λ t. t < n) × ((t : ℕ) (p : P) (q : Q) → from ≤ t → t < n → IsPair [] a b p q → left t p ≡ right t q)

-- The circuits agree in the runs that meet the assumption, and agree onward over the exposed latches; so where these are equal from the start
-- up to the printed cycle, they are equal for ever, and the outputs from that cycle on.
pub record AreEqualUnder {P Q : Type 0} (c : Assumption) (a : Circuit P) (b : Circuit Q) (o : Outcome) : Type 0 where
  pub agree : AgreeUnder Plain c a b
  pub onward : AgreeOnwardUnder Plain o.exposed c a b
  pub from : AgreeFromUnder c o.through o.exposed a b
