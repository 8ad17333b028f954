-- What is found of pairs of signals in one cycle of runs from the initial values.
use Rattle.std.specs.Prelude.{◌≡◌, ℕ, ◌+◌, ◌≤◌, List, length, map, Option, Some, slice_get, Result, Ok, Err}
use Rattle.std.specs.List.{AllZip}
use Rattle.circuit_theory.specs.declared.Side.TheVariants.{A, B}
use Rattle.sec_base.specs.declared.basics.PairAnswer.{PairAnswer}
use Rattle.sec_base.specs.declared.basics.PairAnswer.TheVariants as answer
use Rattle.circuit_laws.specs.reset_laws.Reset.{IsResetWitness}
use Rattle.pair_decide.specs.declared.query.Proof.{Proof}
use Rattle.cbf_unfold.specs.declared.unfold_places.signal_function.Unfolded.{Unfolded}
use Rattle.obligations.specs.declared.outcome.verdict.PairResult.{PairResult}
use Rattle.obligations.specs.declared.outcome.verdict.ResetWitness.{ResetWitness}
use Rattle.obligations.specs.Fits.{AnswerFits}
use Rattle.merged_graph.specs.Merged.{IsMerged}
use Rattle.outcome_fits.specs.ResetOutcome.{Numbered, pair_at}
use Rattle.outcome_fits.specs.Results.{ResultFits, IsFirst, IsSequenceOf}
use Rattle.sec_setup.specs.declared.ports.pairs.SignalPair.{SignalPair}
use Rattle.sec_setup.specs.declared.setup.Setup.{Setup}
use Rattle.sec_setup.specs.ports.Pairs.{NamedPair, places_of}
use Rattle.reset_form.specs.declared.reset_functions.bases.Bases.{Bases}
use Rattle.reset_form.specs.declared.reset_functions.functions.Functions.{Functions}
use Rattle.reset_form.specs.declared.reset_functions.error.ResetError.{ResetError}
use Rattle.reset_form.specs.declared.reset_functions.error.ResetError.TheVariants as refused
use Rattle.reset_form.specs.declared.reset_asked.findings.ResetVerdict.{ResetVerdict}
use Rattle.reset_form.specs.Findings.{VerdictOf}
use Rattle.reset_form.specs.reset_asked.Numbers.{numbered}
use Rattle.reset_form.specs.reset_unfold.Unfolded.{FitsReset}
use Rattle.cycle_search.specs.declared.cycle.InCycle.{InCycle}
use Rattle.cycle_search.specs.declared.cycle.Unfolding.{Unfolding}
use Rattle.cycle_search.specs.Outputs.{IsApart, HasDoneBefore, IsOneTooLarge}

-- What each answer says of a pair in the cycle, and the proof that stands beside it: each difference is one of the circuits.
abbrev pub AnswerIn : Numbered → ℕ → ℕ → ℕ → ℕ → PairAnswer → Option Proof → Type 0
AnswerIn n conflicts p q t result proof = AnswerFits (pair_at n p q t) (Unit {0}) conflicts result proof

-- the result of a pair: its name, the cycle, and the answer
abbrev pub ResultIn : Numbered → ℕ → ℕ → NamedPair ℕ ℕ → PairResult → Type 0
ResultIn n conflicts t x result = ResultFits x.name (λ size. size ≡ t) (λ size. AnswerIn n conflicts x.left x.right t) result

-- The first pair that is different in the cycle, and a sequence with two power-ups that make it differ there: by an assignment of the
-- variables of both functions, up to 16 variables the least one.
abbrev pub IsDifferenceIn : Numbered → ℕ → List (NamedPair ℕ ℕ) → List PairResult → ResetWitness → Type 0
IsDifferenceIn n t pairs results w =
    IsFirst answer.Different (λ x r. IsSequenceOf x.name n.columns (λ cycle. cycle ≡ t)
    (λ rows cycle left right. IsResetWitness n.a n.b n.left n.right n.left_base n.right_base x.left x.right (length n.columns) rows w.left_power w.right_power t left right) w.witness) pairs results

-- the verdict of pairs in the cycle
abbrev pub VerdictIn : Numbered → ℕ → List (NamedPair ℕ ℕ) → List PairResult → ResetVerdict → Type 0
VerdictIn n t pairs results v = VerdictOf (IsDifferenceIn n t pairs results) results v

-- one result for each pair in order, and the verdict
pub record IsFoundIn (n : Numbered) (conflicts t : ℕ) (pairs : List (NamedPair ℕ ℕ)) (f : InCycle) : Type 0 where
  pub pairs_fit : AllZip (ResultIn n conflicts t) pairs f.pairs
  pub verdict_is : VerdictIn n t pairs f.pairs f.verdict

-- Both circuits are unfolded in the cycles before this one, on one graph and table, which are no larger than what is unfolded weighs. The
-- merged graph stands beside that one.
pub record IsUnfoldedBefore (s : Setup) (b : Bases) (cycle : ℕ) (u : Unfolding) : Type 0 where
  pub left_net : u.left.net ≡ s.left.now
  pub left_order : u.left.order ≡ s.orders.left
  pub left_base : u.left.base ≡ b.left
  pub right_net : u.right.net ≡ s.right.now
  pub right_order : u.right.order ≡ s.orders.right
  pub right_base : u.right.base ≡ b.right
  pub left_fits : FitsReset u.left u.functions.aig u.functions.places
  pub right_fits : FitsReset u.right u.functions.aig u.functions.places
  pub left_done : HasDoneBefore A s.pairs cycle u.left.done
  pub right_done : HasDoneBefore B s.pairs cycle u.right.done
  pub merged : IsMerged u.functions.aig u.merged
  pub nodes : length u.functions.aig ≤ 1 + u.left.weight + u.right.weight
  pub entries : length u.functions.places ≤ u.left.weight + u.right.weight

-- The functions of both signals of each pair in the cycle. Where both have one literal, no variables need be listed.
pub record AreFunctionsIn (s : Setup) (b : Bases) (f : Functions) (cycle : ℕ) (left right : List Unfolded) : Type 0 where
  pub left_each : length left ≡ length s.pairs
  pub right_each : length right ≡ length s.pairs
  pub left_are : (i : ℕ) (x : SignalPair) (l r : Unfolded) → slice_get s.pairs i ≡ Some x → slice_get left i ≡ Some l → slice_get right i ≡ Some r → IsApart s.left.now s.orders.left b.left f.aig f.places x.left.0 cycle r.lit.0 l
  pub right_are : (i : ℕ) (x : SignalPair) (l r : Unfolded) → slice_get s.pairs i ≡ Some x → slice_get left i ≡ Some l → slice_get right i ≡ Some r → IsApart s.right.now s.orders.right b.right f.aig f.places x.right.0 cycle l.lit.0 r

-- what is found in the cycle, or the circuit whose outputs in the cycles up to this one weigh more than 2,000,000 together
abbrev pub Compared : Setup → Bases → ℕ → ℕ → Result InCycle ResetError → Type 0
Compared s b cycle conflicts (Ok f) = IsFoundIn (numbered s b) conflicts cycle (map places_of s.pairs) f
Compared s b cycle conflicts (Err (refused.TooLarge side)) = IsOneTooLarge s.left.now s.right.now cycle side
Compared s b cycle conflicts (Err refused.NoMemory) = Unit {0}
