-- What it means that what is found of some pairs fits two circuits.
use Rattle.std.specs.Prelude.{◌≡◌, ℕ, Bool, List}
use Rattle.std.specs.List.{AllZip}
use Rattle.circuit_theory.specs.Circuit.{Circuit}
use Rattle.sec_base.specs.declared.basics.PairAnswer.{PairAnswer}
use Rattle.witness_report.specs.declared.witness.Witness.{Witness}
use Rattle.outcome_fits.specs.PairResult.{PairResult}
use Rattle.sec_setup.specs.ports.Pairs.{NamedPair}
use Rattle.outcome_fits.specs.Outcome.{PairFits, IsFirstOfAnswer, VerdictOf, greatest_size}
use Rattle.plain_asked.specs.declared.findings.Findings.{Findings}

-- What is found of the pairs: one result for each in order, which fits it, the greatest depth, and the verdict.
pub record AreFound {X : Type 0} (Fits : X → PairResult → Type 0) (First : List PairResult → PairAnswer → Witness → Type 0) (pairs : List X) (f : Findings) : Type 0 where
  pub pairs_fit : AllZip Fits pairs f.pairs
  pub through : f.through ≡ greatest_size f.pairs
  pub verdict_is : VerdictOf (First f.pairs) f.pairs f.verdict

-- What is found fits the circuits, which are those that are unfolded: `left` and `right` are the numbers of their inputs, and `columns`
-- the names of the numbers.
abbrev pub FindingsFit : {P Q : Type 0} → Circuit P → Circuit Q → List ℕ → List ℕ → List (List ℕ) → Bool → ℕ → List (NamedPair P Q) → Findings → Type 0
FindingsFit a b left right columns cut conflicts pairs f =
    AreFound (PairFits a b left right cut conflicts) (λ results wanted w. IsFirstOfAnswer a b left right columns wanted pairs results w) pairs f
