-- What is judged of two nets by a search.
use Rattle.std.specs.Prelude.{◌≡◌, ℕ, List, Option, Some}
use Rattle.std.specs.List.{filter_map}
use Rattle.circuit_theory.specs.declared.Side.{Side}
use Rattle.circuit_laws.specs.reset_laws.Reset.{AgreeFromReset}
use Rattle.circuit_laws.specs.cycle_laws.Bounded.{AgreeUpTo}
use Rattle.flat_net.specs.View.{NetView, circuit_of}
use Rattle.pair_decide.specs.declared.query.Proof.{Proof}
use Rattle.obligations.specs.declared.outcome.verdict.PairResult.{PairResult}
use Rattle.obligations.specs.declared.outcome.verdict.ResetWitness.{ResetWitness}
use Rattle.plain_check.specs.under_base.compare_base.Says.{MakesResetsDiffer}
use Rattle.job_base.specs.declared.finding.Judgement.{Judgement}
use Rattle.job_base.specs.declared.finding.Judgement.TheVariants as judgement
use Rattle.cycle_search.specs.declared.found.Searched.{Searched}
use Rattle.cycle_search.specs.declared.found.SearchVerdict.{SearchVerdict}
use Rattle.cycle_search.specs.declared.found.SearchVerdict.TheVariants as verdict
use Rattle.cycle_search.specs.search_report.Report.{search_text}
use Rattle.cycle_search.specs.Searches.{AreSearched}

abbrev pub judgement_of : SearchVerdict → Judgement
judgement_of verdict.Equal = judgement.Equal
judgement_of (verdict.NoDifference stopped) = judgement.NotShown
judgement_of (verdict.Different w) = judgement.Different
judgement_of (verdict.Limit name) = judgement.Limit

-- the proofs of the pairs that met the limit, in their order
abbrev pub proofs_of : List PairResult → List Proof
proofs_of pairs = filter_map (λ (p : PairResult). p.proof) pairs

-- What is judged and written of a search. Equal says that the outputs agree in every cycle; no difference, that they do in each cycle up
-- to the last; different, that the sequence and the power-ups make the named output differ, and that it doesn't in an earlier cycle.
pub record IsJudged (a b : NetView) (cycles conflicts : ℕ) (j : Judgement) (proofs : List Proof) (text : List ℕ) : Type 0 where
  pub made : Searched
  pub is : AreSearched a b cycles conflicts made
  pub agree : made.verdict ≡ verdict.Equal → AgreeFromReset (circuit_of a) (circuit_of b)
  pub agree_up_to : (stopped : Option Side) → made.verdict ≡ verdict.NoDifference stopped → AgreeUpTo made.last (circuit_of a) (circuit_of b)
  pub differ : (w : ResetWitness) → made.verdict ≡ verdict.Different w → MakesResetsDiffer (circuit_of a) (circuit_of b) w
  pub judgement_is : j ≡ judgement_of made.verdict
  pub proofs_are : proofs ≡ proofs_of made.pairs
  pub text_is : text ≡ search_text a b cycles conflicts made
