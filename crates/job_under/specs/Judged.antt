-- What is judged of two nets by a search under an assumption.
use Rattle.std.specs.Prelude.{◌≡◌, ◌⊎◌, ℕ, List, [], ◌∷◌, Option}
use Rattle.circuit_theory.specs.Interface.{shared_inputs}
use Rattle.circuit_theory.specs.declared.Side.{Side}
use Rattle.flat_net.specs.View.{NetView, circuit_of, ports_of}
use Rattle.pair_decide.specs.declared.query.Proof.{Proof}
use Rattle.obligations.specs.declared.outcome.verdict.ResetWitness.{ResetWitness}
use Rattle.sec_setup.specs.Matching.{InterfacesMatch}
use Rattle.assume_laws.specs.Assume.{AgreeFromResetUnder}
use Rattle.assume_laws.specs.Sequences.{RowsMeet}
use Rattle.assume_queries.specs.assume_sequences.assume_taken.Taken.{assumed_by, IsUndecidedBy}
use Rattle.plain_check.specs.under_base.under_fits.ResetOutcome.{MakesResetsDifferUnder}
use Rattle.job_base.specs.declared.finding.Judgement.{Judgement}
use Rattle.job_base.specs.declared.finding.Judgement.TheVariants as judgement
use Rattle.cycle_search.specs.declared.found.Searched.{Searched}
use Rattle.cycle_search.specs.declared.found.SearchVerdict.TheVariants as verdict
use Rattle.cycle_under.specs.First.{AgreeUpToUnder}
use Rattle.cycle_under.specs.Searches.{AreSearchedUnder}
use Rattle.sec_jobs.specs.job_search.search_meaning.Judged.{judgement_of, proofs_of}
use Rattle.job_under.specs.Report.{searched_text, undecided_text}

-- What is judged and written of a search. Equal says that the outputs agree in every cycle of runs that meet the assumption; no difference,
-- that they do in each cycle up to the last; different, that the sequence and the power-ups make the named output differ, that the sequence
-- meets the assumption, and that no runs that meet it differ there in an earlier cycle.
pub record IsJudgedSearch (a b c : NetView) (cycles conflicts : ℕ) (j : Judgement) (proofs : List Proof) (text : List ℕ) : Type 0 where
  pub made : Searched
  pub is : AreSearchedUnder a b c cycles conflicts made
  pub agree : made.verdict ≡ verdict.Equal → AgreeFromResetUnder (assumed_by is.assumed) (circuit_of a) (circuit_of b)
  pub agree_up_to : (stopped : Option Side) → made.verdict ≡ verdict.NoDifference stopped → AgreeUpToUnder (assumed_by is.assumed) made.last (circuit_of a) (circuit_of b)
  pub differ : (w : ResetWitness) → made.verdict ≡ verdict.Different w →
      MakesResetsDifferUnder (assumed_by is.assumed) (circuit_of a) (circuit_of b) w × RowsMeet (assumed_by is.assumed) w.witness.stimulus.rows w.witness.cycle
  pub judgement_is : j ≡ judgement_of made.verdict
  pub proofs_are : proofs ≡ proofs_of made.pairs
  pub text_is : text ≡ searched_text a b is.assumed.shape.output.name cycles conflicts made

-- Whether some row of inputs meets the assumption wasn't decided: that is the limit, and nothing was compared.
pub record IsJudgedUndecided (a b c : NetView) (conflicts : ℕ) (j : Judgement) (proofs : List Proof) (text : List ℕ) : Type 0 where
  pub matches : InterfacesMatch a b
  pub proof : Proof
  pub is : IsUndecidedBy (shared_inputs (ports_of a) (ports_of b)) c conflicts proof
  pub judgement_is : j ≡ judgement.Limit
  pub proofs_are : proofs ≡ proof ∷ []
  pub text_is : text ≡ undecided_text a b is.assumed.shape.output.name conflicts

abbrev pub IsJudged : NetView → NetView → NetView → ℕ → ℕ → Judgement → List Proof → List ℕ → Type 0
IsJudged a b c cycles conflicts j proofs text = IsJudgedSearch a b c cycles conflicts j proofs text ⊎ IsJudgedUndecided a b c conflicts j proofs text
