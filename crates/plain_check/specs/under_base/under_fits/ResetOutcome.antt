-- What it means that an outcome from the initial values fits two circuits under an assumption.
use Rattle.std.specs.Prelude.{◌≡◌, ◌≢◌, ℕ, ◌<◌, Bool, List, [], length}
use Rattle.std.specs.List.{AllZip, Contains}
use Rattle.circuit_theory.specs.Circuit.{Circuit}
use Rattle.circuit_theory.specs.Cone.{latches_of}
use Rattle.circuit_theory.specs.Interface.{shared_inputs, AreNumbersOf}
use Rattle.circuit_theory.specs.Run.{IsRun, IsResetRun}
use Rattle.flat_net.specs.View.{NetView, circuit_of, ports_of}
use Rattle.witness_report.specs.declared.witness.PairName.TheVariants as pair
use Rattle.witness_report.specs.Shown.{Obeys}
use Rattle.obligations.specs.declared.outcome.verdict.Outcome.{Outcome}
use Rattle.obligations.specs.declared.outcome.verdict.PairResult.{PairResult}
use Rattle.obligations.specs.declared.outcome.verdict.ResetWitness.{ResetWitness}
use Rattle.obligations.specs.declared.outcome.verdict.Verdict.{Verdict}
use Rattle.circuit_laws.specs.reset_laws.Reset.{AreBased, AreAlikeFromReset, TakesPower}
use Rattle.sec_setup.specs.ports.Pairs.{NamedPair, named_pairs}
use Rattle.outcome_fits.specs.ResetOutcome.{Numbered, ResetVerdictOf, greatest_size}
use Rattle.assume_laws.specs.Assume.{Assumption, RunMeets, ReadsInputs}
use Rattle.plain_check.specs.under_base.under_fits.ResetVerdict.{PairFitsUnder, IsFirstDifferenceUnder}

-- the circuits of two nets, with these numbers of their variables
abbrev pub numbers_of : NetView → NetView → List ℕ → List ℕ → ℕ → ℕ → Numbered
numbers_of a b left right left_base right_base = record {
  a = circuit_of a;
  b = circuit_of b;
  left = left;
  right = right;
  left_base = left_base;
  right_base = right_base;
  columns = shared_inputs (ports_of a) (ports_of b);
}

-- the verdict of pairs as they are asked under the assumption
abbrev pub ResetVerdictFitsUnder : Assumption → Numbered → (ℕ → Bool) → List (NamedPair ℕ ℕ) → List PairResult → Verdict → Type 0
ResetVerdictFitsUnder c n meeting pairs results v = ResetVerdictOf (IsFirstDifferenceUnder c n meeting pairs results) results v

-- The outcome fits the circuits under an assumption that reads inputs of both: the counts, no exposed name, the pairs of outputs in order with
-- their answers, and the verdict. A sequence holds this row where it has no variable of both sides.
pub record ResetOutcomeFitsUnder (c : Assumption) (meeting : ℕ → Bool) (a b : NetView) (conflicts : ℕ) (o : Outcome) : Type 0 where
  pub left : List ℕ
  pub right : List ℕ
  pub left_numbers : AreNumbersOf (ports_of a).inputs (shared_inputs (ports_of a) (ports_of b)) left right
  pub right_numbers : AreNumbersOf (ports_of b).inputs (shared_inputs (ports_of a) (ports_of b)) right left
  pub left_base : ℕ
  pub right_base : ℕ
  pub based : AreBased (circuit_of a) (circuit_of b) left right left_base right_base
  pub reads : ReadsInputs c (circuit_of a) left
  pub inputs : o.inputs ≡ length (shared_inputs (ports_of a) (ports_of b))
  pub left_latches : o.left_latches ≡ length a.latches
  pub right_latches : o.right_latches ≡ length b.latches
  pub exposed : o.exposed ≡ []
  pub classes : o.classes ≡ 0
  pub pairs : AllZip (PairFitsUnder c (numbers_of a b left right left_base right_base) conflicts) (named_pairs [] (circuit_of a) (circuit_of b)) o.pairs
  pub through : o.through ≡ greatest_size o.pairs
  pub verdict_is : ResetVerdictFitsUnder c (numbers_of a b left right left_base right_base) meeting (named_pairs [] (circuit_of a) (circuit_of b)) o.pairs o.verdict

-- What different says: runs that power up as is printed begin with the initial values, and every two of them that obey the sequence have the
-- printed values of the named outputs in the printed cycle, which differ. In no two runs with equal inputs that begin with the initial values
-- and meet the assumption do these outputs differ in an earlier cycle.
pub record MakesResetsDifferUnder {P Q : Type 0} (c : Assumption) (a : Circuit P) (b : Circuit Q) (w : ResetWitness) : Type 0 where
  pub name : List ℕ
  pub left_place : P
  pub right_place : Q
  pub named : w.witness.pair ≡ pair.Output name
  pub left_output : Contains a.outputs (record { name = name; place = left_place })
  pub right_output : Contains b.outputs (record { name = name; place = right_place })
  pub differ : w.witness.left ≢ w.witness.right
  pub left_each : length w.left_power ≡ length (latches_of a)
  pub right_each : length w.right_power ≡ length (latches_of b)
  pub left_begins : (n : ℕ) (run : ℕ → P → Bool) → IsRun a n run → TakesPower a w.left_power run → IsResetRun a n run
  pub right_begins : (n : ℕ) (run : ℕ → Q → Bool) → IsRun b n run → TakesPower b w.right_power run → IsResetRun b n run
  pub left_shows : (n : ℕ) (run : ℕ → P → Bool) → w.witness.cycle < n → IsRun a n run → TakesPower a w.left_power run → Obeys a w.witness.stimulus n run → run w.witness.cycle left_place ≡ w.witness.left
  pub right_shows : (n : ℕ) (run : ℕ → Q → Bool) → w.witness.cycle < n → IsRun b n run → TakesPower b w.right_power run → Obeys b w.witness.stimulus n run → run w.witness.cycle right_place ≡ w.witness.right
  pub earlier : (n : ℕ) (left : ℕ → P → Bool) (right : ℕ → Q → Bool) → AreAlikeFromReset a b n left right → RunMeets c a n left → (t : ℕ) → t < n → t < w.witness.cycle → left t left_place ≡ right t right_place
