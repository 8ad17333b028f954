-- What it means that what is found of some pairs fits two circuits.
use Rattle.std.specs.Prelude.{◌≡◌, ℕ, List}
use Rattle.std.specs.List.{All, AllZip}
use Rattle.sec_base.specs.declared.basics.PairAnswer.TheVariants as answer
use Rattle.obligations.specs.declared.outcome.verdict.PairResult.{PairResult}
use Rattle.obligations.specs.declared.outcome.verdict.ResetWitness.{ResetWitness}
use Rattle.sec_setup.specs.ports.Pairs.{NamedPair}
use Rattle.outcome_fits.specs.ResetOutcome.{Numbered, PairFits, IsFirstDifference, IsFirstLimit, greatest_size}
use Rattle.reset_form.specs.declared.reset_asked.findings.ResetFindings.{ResetFindings}
use Rattle.reset_form.specs.declared.reset_asked.findings.ResetVerdict.{ResetVerdict}
use Rattle.reset_form.specs.declared.reset_asked.findings.ResetVerdict.TheVariants as verdict

-- the first of different and limit that some pair has, and equal where every pair is equal; `First` says which pair a sequence is of
abbrev pub VerdictOf : (ResetWitness → Type 0) → List PairResult → ResetVerdict → Type 0
VerdictOf First results verdict.Equal = All (λ (r : PairResult). r.answer ≡ answer.Equal) results
VerdictOf First results (verdict.Different w) = First w
VerdictOf First results (verdict.Limit name) = IsFirstLimit results name

-- the verdict of pairs as they are asked in each cycle up to their depth
abbrev pub VerdictFits : Numbered → List (NamedPair ℕ ℕ) → List PairResult → ResetVerdict → Type 0
VerdictFits n pairs results v = VerdictOf (IsFirstDifference n pairs results) results v

-- What is found of the pairs: one result for each in order, which fits it, the greatest depth, and the verdict.
pub record AreFound (Fits : NamedPair ℕ ℕ → PairResult → Type 0) (First : List PairResult → ResetWitness → Type 0) (pairs : List (NamedPair ℕ ℕ)) (f : ResetFindings) : Type 0 where
  pub pairs_fit : AllZip Fits pairs f.pairs
  pub through : f.through ≡ greatest_size f.pairs
  pub verdict_is : VerdictOf (First f.pairs) f.pairs f.verdict

-- what is found fits the circuits
abbrev pub FindingsFit : Numbered → ℕ → List (NamedPair ℕ ℕ) → ResetFindings → Type 0
FindingsFit n conflicts pairs f = AreFound (PairFits n conflicts) (IsFirstDifference n pairs) pairs f
