-- What it means that what is found of a pair fits two circuits, in the plain form under an assumption.
use Rattle.std.specs.Prelude.{◌≡◌, ℕ, Bool, false, List, Option}
use Rattle.circuit_theory.specs.Asked.{plain_pair}
use Rattle.circuit_theory.specs.Circuit.{Circuit}
use Rattle.circuit_theory.specs.Fits.{IsPairDepth}
use Rattle.sec_base.specs.declared.basics.PairAnswer.{PairAnswer}
use Rattle.obligations.specs.Fits.{AnswerFits}
use Rattle.obligations.specs.pair_decide.Proof.{Proof}
use Rattle.obligations.specs.declared.outcome.verdict.PairResult.{PairResult}
use Rattle.sec_setup.specs.ports.Pairs.{NamedPair}
use Rattle.outcome_fits.specs.Results.{ResultFits}
use Rattle.assume_laws.specs.Assume.{Assumption, under}

-- what each answer says of a pair, and the proof that stands beside it
abbrev pub AnswerFitsUnder : {P Q : Type 0} → Assumption → Circuit P → Circuit Q → List ℕ → List ℕ → Bool → ℕ → P → Q → PairAnswer → Option Proof → Type 0
AnswerFitsUnder c a b left right cut conflicts p q result proof = AnswerFits (under c (plain_pair a b left right p q)) (cut ≡ false) conflicts result proof

-- the result of a pair: its name, the greater of both depths, and the answer on both functions
abbrev pub PairFitsUnder : {P Q : Type 0} → Assumption → Circuit P → Circuit Q → List ℕ → List ℕ → Bool → ℕ → NamedPair P Q → PairResult → Type 0
PairFitsUnder c a b left right cut conflicts x result = ResultFits x.name (IsPairDepth a b x.left x.right) (λ size. AnswerFitsUnder c a b left right cut conflicts x.left x.right) result
