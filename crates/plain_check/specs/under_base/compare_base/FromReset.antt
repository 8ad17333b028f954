-- A comparison from the latches' initial values: that an outcome fits two circuits, and that one is too large. No latch is cut open.
use Rattle.std.specs.Prelude.{◌≡◌, ◌≤◌, ℕ, List, [], length, None}
use Rattle.std.specs.List.{AllZip, Contains}
use Rattle.circuit_theory.specs.declared.Side.{Side}
use Rattle.circuit_theory.specs.declared.Side.TheVariants.{A, B}
use Rattle.circuit_theory.specs.Circuit.{Circuit}
use Rattle.circuit_theory.specs.Fits.{IsPairDepth}
use Rattle.circuit_theory.specs.Interface.{shared_inputs, AreNumbersOf}
use Rattle.flat_net.specs.View.{NetView, circuit_of, ports_of}
use Rattle.obligations.specs.declared.outcome.verdict.Outcome.{Outcome}
use Rattle.obligations.specs.declared.outcome.verdict.PairResult.{PairResult}
use Rattle.obligations.specs.declared.outcome.verdict.Verdict.{Verdict}
use Rattle.circuit_laws.specs.reset_laws.Reset.{AreBased}
use Rattle.outcome_fits.specs.Pairs.{NamedPair, named_pairs}
use Rattle.outcome_fits.specs.ResetOutcome.{Numbered, PairFits, IsFirstDifference, ResetVerdictOf, greatest_size}
use Rattle.reset_form.specs.reset_functions.Pairs.{IsLight, IsTooLarge}

-- an output of A in a cycle up to the depth of its pair
abbrev pub IsLeftStart : Circuit ℕ → Circuit ℕ → ℕ × ℕ → Type 0
IsLeftStart a b p = (x : NamedPair ℕ ℕ) × Contains (named_pairs [] a b) x × (depth : ℕ) × IsPairDepth a b x.left x.right depth × (p.0 ≤ depth) × (p.1 ≡ x.left)

-- or of B
abbrev pub IsRightStart : Circuit ℕ → Circuit ℕ → ℕ × ℕ → Type 0
IsRightStart a b p = (x : NamedPair ℕ ℕ) × Contains (named_pairs [] a b) x × (depth : ℕ) × IsPairDepth a b x.left x.right depth × (p.0 ≤ depth) × (p.1 ≡ x.right)

-- the unfoldings of one circuit's outputs in these cycles weigh at most 2,000,000 together
abbrev pub IsLeftLight : NetView → NetView → Type 0
IsLeftLight a b = IsLight a (IsLeftStart (circuit_of a) (circuit_of b))

abbrev pub IsRightLight : NetView → NetView → Type 0
IsRightLight a b = IsLight b (IsRightStart (circuit_of a) (circuit_of b))

-- or more: A's, or else B's
abbrev pub AreTooLargeFromReset : NetView → NetView → Side → Type 0
AreTooLargeFromReset a b A = IsTooLarge a (IsLeftStart (circuit_of a) (circuit_of b))
AreTooLargeFromReset a b B = IsLeftLight a b × IsTooLarge b (IsRightStart (circuit_of a) (circuit_of b))

-- the circuits of two nets, with these numbers of their variables
abbrev pub numbered_by : NetView → NetView → List ℕ → List ℕ → ℕ → ℕ → Numbered
numbered_by a b left right left_base right_base = record {
  a = circuit_of a;
  b = circuit_of b;
  left = left;
  right = right;
  left_base = left_base;
  right_base = right_base;
  columns = shared_inputs (ports_of a) (ports_of b);
}

-- the verdict of pairs as they are asked in each cycle up to their depth
abbrev pub ResetVerdictFits : Numbered → List (NamedPair ℕ ℕ) → List PairResult → Verdict → Type 0
ResetVerdictFits n pairs results v = ResetVerdictOf (IsFirstDifference n pairs results) results v

-- The outcome fits the circuits: the counts, no assumption, no exposed name, the pairs of outputs in order with their answers, and the
-- verdict.
pub record ResetOutcomeFits (a b : NetView) (conflicts : ℕ) (o : Outcome) : Type 0 where
  pub left : List ℕ
  pub right : List ℕ
  pub left_numbers : AreNumbersOf (ports_of a).inputs (shared_inputs (ports_of a) (ports_of b)) left right
  pub right_numbers : AreNumbersOf (ports_of b).inputs (shared_inputs (ports_of a) (ports_of b)) right left
  pub left_base : ℕ
  pub right_base : ℕ
  pub based : AreBased (circuit_of a) (circuit_of b) left right left_base right_base
  pub inputs : o.inputs ≡ length (shared_inputs (ports_of a) (ports_of b))
  pub left_latches : o.left_latches ≡ length a.latches
  pub right_latches : o.right_latches ≡ length b.latches
  pub assumed : o.assumed ≡ None
  pub exposed : o.exposed ≡ []
  pub classes : o.classes ≡ 0
  pub pairs : AllZip (PairFits (numbered_by a b left right left_base right_base) conflicts)
      (named_pairs [] (circuit_of a) (circuit_of b)) o.pairs
  pub through : o.through ≡ greatest_size o.pairs
  pub verdict_is : ResetVerdictFits (numbered_by a b left right left_base right_base)
      (named_pairs [] (circuit_of a) (circuit_of b)) o.pairs o.verdict
