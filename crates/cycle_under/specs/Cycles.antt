-- What is found of pairs of signals in one cycle of runs from the initial values, under an assumption.
use Rattle.std.specs.Prelude.{◌≡◌, ℕ, ◌+◌, ◌*◌, ◌≤◌, List, length, map, Result, Ok, Err}
use Rattle.std.specs.List.{AllZip}
use Rattle.circuit_theory.specs.declared.Side.TheVariants.{A, B}
use Rattle.circuit_theory.specs.Asked.{AskedPair}
use Rattle.sec_base.specs.declared.basics.PairAnswer.TheVariants as answer
use Rattle.obligations.specs.declared.outcome.verdict.PairResult.{PairResult}
use Rattle.obligations.specs.declared.outcome.verdict.ResetWitness.{ResetWitness}
use Rattle.obligations.specs.Fits.{AnswerFits}
use Rattle.outcome_fits.specs.ResetOutcome.{Numbered}
use Rattle.outcome_fits.specs.Results.{ResultFits, IsFirst, IsSequenceOf}
use Rattle.sec_setup.specs.declared.setup.Setup.{Setup}
use Rattle.sec_setup.specs.ports.Pairs.{NamedPair, places_of}
use Rattle.assume_laws.specs.Assume.{Assumption}
use Rattle.assume_queries.specs.declared.assume_sequences.premise.Premise.{Premise}
use Rattle.reset_form.specs.declared.reset_functions.bases.Bases.{Bases}
use Rattle.reset_form.specs.declared.reset_functions.error.ResetError.{ResetError}
use Rattle.reset_form.specs.declared.reset_asked.findings.ResetVerdict.{ResetVerdict}
use Rattle.reset_form.specs.Findings.{VerdictOf}
use Rattle.reset_form.specs.reset_asked.Numbers.{numbered}
use Rattle.reset_form.specs.reset_unfold.Unfolded.{FitsReset}
use Rattle.cycle_search.specs.declared.cycle.InCycle.{InCycle}
use Rattle.cycle_search.specs.Cycles.{Compared}
use Rattle.cycle_search.specs.Outputs.{HasDoneBefore}
use Rattle.cycle_under.specs.declared.cycle.Unfolding.{Unfolding}
use Rattle.cycle_under.specs.Cares.{OfEach, IsCareFirst}
use Rattle.cycle_under.specs.First.{reset_pair_under, IsWitnessFirst}

-- a pair as it is asked in the cycle
abbrev pub pair_under : Assumption → Numbered → ℕ → ℕ → ℕ → AskedPair ℕ
pair_under c n p q t = reset_pair_under c n.a n.b n.left n.right n.left_base n.right_base p q t

-- the result of a pair: its name, the cycle, and the answer, with what it says of the pair in the cycle
abbrev pub ResultUnder : Assumption → Numbered → ℕ → ℕ → NamedPair ℕ ℕ → PairResult → Type 0
ResultUnder c n conflicts t x result = ResultFits x.name (λ size. size ≡ t) (λ size. AnswerFits (pair_under c n x.left x.right t) (Unit {0}) conflicts) result

-- The first pair that is different in the cycle, and a sequence with two power-ups that make it differ there: by an assignment of the
-- variables of both functions and of the assumption, up to 16 variables the least one.
abbrev pub IsDifferenceUnder : Assumption → Numbered → ℕ → List (NamedPair ℕ ℕ) → List PairResult → ResetWitness → Type 0
IsDifferenceUnder c n t pairs results w =
    IsFirst answer.Different (λ x r. IsSequenceOf x.name n.columns (λ cycle. cycle ≡ t)
    (λ rows cycle left right. IsWitnessFirst c n.a n.b n.left n.right n.left_base n.right_base x.left x.right (length n.columns) rows w.left_power w.right_power t left right) w.witness) pairs results

-- the verdict of pairs in the cycle
abbrev pub VerdictUnder : Assumption → Numbered → ℕ → List (NamedPair ℕ ℕ) → List PairResult → ResetVerdict → Type 0
VerdictUnder c n t pairs results v = VerdictOf (IsDifferenceUnder c n t pairs results) results v

-- one result for each pair in order, and the verdict
pub record IsFoundUnder (c : Assumption) (n : Numbered) (conflicts t : ℕ) (pairs : List (NamedPair ℕ ℕ)) (f : InCycle) : Type 0 where
  pub pairs_fit : AllZip (ResultUnder c n conflicts t) pairs f.pairs
  pub verdict_is : VerdictUnder c n t pairs f.pairs f.verdict

-- Both circuits and the assumption are unfolded in the cycles before this one, on one graph and table, which are no larger than what is
-- unfolded weighs, with one more for each cycle.
pub record IsUnfoldedBefore (s : Setup) (b : Bases) (p : Premise) (cycle : ℕ) (u : Unfolding) : Type 0 where
  pub left_net : u.left.net ≡ s.left.now
  pub left_order : u.left.order ≡ s.orders.left
  pub left_base : u.left.base ≡ b.left
  pub right_net : u.right.net ≡ s.right.now
  pub right_order : u.right.order ≡ s.orders.right
  pub right_base : u.right.base ≡ b.right
  pub left_fits : FitsReset u.left u.functions.aig u.functions.places
  pub right_fits : FitsReset u.right u.functions.aig u.functions.places
  pub left_done : HasDoneBefore A s.pairs cycle u.left.done
  pub right_done : HasDoneBefore B s.pairs cycle u.right.done
  pub care : OfEach p.own (λ c. IsCareFirst c u.functions.aig u.functions.places cycle u.care)
  pub nodes : length u.functions.aig ≤ 1 + u.left.weight + u.right.weight + (p.weight * cycle + cycle)
  pub entries : length u.functions.places ≤ u.left.weight + u.right.weight + p.weight * cycle

-- the assumption is light enough for the cycles up to this one, of which there are few
pub record IsLightUpTo (p : Premise) (cycle : ℕ) : Type 0 where
  pub light : p.weight * (cycle + 1) ≤ 2000000
  pub few : cycle ≤ 1000

-- what is found in the cycle under each assumption of the premise, or the refusal that comes without one
abbrev pub ComparedUnder : Setup → Bases → Premise → ℕ → ℕ → Result InCycle ResetError → Type 0
ComparedUnder s b p cycle conflicts (Ok f) = OfEach p.own (λ c. IsFoundUnder c (numbered s b) conflicts cycle (map places_of s.pairs) f)
ComparedUnder s b p cycle conflicts (Err e) = Compared s b cycle conflicts (Err e)
