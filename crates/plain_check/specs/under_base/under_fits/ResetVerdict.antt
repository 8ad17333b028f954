-- What it means that what is found of some pairs fits two circuits whose runs begin with the latches' initial values, under an assumption.
use Rattle.std.specs.Prelude.{ℕ, ◌≤◌, Bool, List, length, Option}
use Rattle.circuit_theory.specs.Asked.{AreEqual}
use Rattle.circuit_theory.specs.Fits.{IsPairDepth}
use Rattle.sec_base.specs.declared.basics.PairAnswer.{PairAnswer}
use Rattle.sec_base.specs.declared.basics.PairAnswer.TheVariants as answer
use Rattle.obligations.specs.Fits.{AreEqualBefore, AnswersFit}
use Rattle.obligations.specs.pair_decide.Proof.{Proof}
use Rattle.obligations.specs.declared.outcome.verdict.PairResult.{PairResult}
use Rattle.obligations.specs.declared.outcome.verdict.ResetWitness.{ResetWitness}
use Rattle.sec_setup.specs.ports.Pairs.{NamedPair}
use Rattle.assume_laws.specs.Assume.{Assumption, under}
use Rattle.assume_laws.specs.Sequences.{IsResetWitnessUnder}
use Rattle.outcome_fits.specs.ResetOutcome.{Numbered, pair_at}
use Rattle.outcome_fits.specs.Results.{ResultFits, IsFirst, IsSequenceOf}

-- both functions of a pair agree in the cycle under each assignment that meets the assumption where they have variables
abbrev pub AgreeAtUnder : Assumption → Numbered → ℕ → ℕ → ℕ → Type 0
AgreeAtUnder c n p q t = AreEqual (under c (pair_at n p q t))

-- they do in each cycle before this one
abbrev pub AgreeBeforeUnder : Assumption → Numbered → ℕ → ℕ → ℕ → Type 0
AgreeBeforeUnder c n p q t = AreEqualBefore (λ s. under c (pair_at n p q s)) t

-- What each answer says of a pair of this depth, by the first of its cycles up to the depth in which it isn't equal.
abbrev pub AnswerFitsUnder : Assumption → Numbered → ℕ → ℕ → ℕ → ℕ → PairAnswer → Option Proof → Type 0
AnswerFitsUnder c n conflicts p q depth result proof = AnswersFit (λ t. under c (pair_at n p q t)) conflicts depth result proof

-- the result of a pair: its name, the greater of both depths, and the answer
abbrev pub PairFitsUnder : Assumption → Numbered → ℕ → NamedPair ℕ ℕ → PairResult → Type 0
PairFitsUnder c n conflicts x result = ResultFits x.name (IsPairDepth n.a n.b x.left x.right) (AnswerFitsUnder c n conflicts x.left x.right) result

-- The first pair that is different, the first cycle in which it can differ under the assumption, and a sequence with two power-ups that make
-- it differ there: by an assignment of the variables of its query that meets the assumption in each cycle that has a variable of both
-- functions, up to 16 variables the least one. Each cycle that has no such variable holds the meeting row.
abbrev pub IsFirstDifferenceUnder : Assumption → Numbered → (ℕ → Bool) → List (NamedPair ℕ ℕ) → List PairResult → ResetWitness → Type 0
IsFirstDifferenceUnder c n meeting pairs results w =
    IsFirst answer.Different (λ x r. IsSequenceOf x.name n.columns (λ t. (t ≤ r.size) × AgreeBeforeUnder c n x.left x.right t)
    (λ rows t left right. IsResetWitnessUnder c n.a n.b n.left n.right n.left_base n.right_base x.left x.right (length n.columns) meeting rows w.left_power w.right_power t left right) w.witness) pairs results
