-- What is judged of two nets by ties of their signals.
use Rattle.std.specs.Prelude.{◌≡◌, ℕ, List, None, Some, Option}
use Rattle.circuit_theory.specs.Interface.{first_mismatch}
use Rattle.circuit_laws.specs.reset_laws.Reset.{AgreeFromReset}
use Rattle.flat_net.specs.View.{NetView, circuit_of, ports_of}
use Rattle.job_base.specs.declared.finding.Judgement.{Judgement}
use Rattle.job_base.specs.declared.finding.Judgement.TheVariants as judgement
use Rattle.signal_induct.specs.declared.induction.SignalInduction.{SignalInduction}
use Rattle.signal_induct.specs.Tied.{first_apart, IsSignalInduction}
use Rattle.signal_induct.specs.signals_report.Report.{signals_text}
use Rattle.sec_jobs.specs.job_induct.induct_meaning.Judged.{AreLight}

-- by the first output that isn't shown equal, if any
abbrev pub judgement_of : Option (List ℕ) → Judgement
judgement_of None = judgement.Equal
judgement_of (Some name) = judgement.NotShown

-- The interfaces match, both nets are light, and this is what is judged and written of their comparison.
pub record IsJudged (a b : NetView) (j : Judgement) (text : List ℕ) : Type 0 where
  pub matches : first_mismatch (ports_of a) (ports_of b) ≡ None
  pub light : AreLight a b
  pub made : SignalInduction
  pub is : IsSignalInduction a b made
  pub agree : first_apart made.pairs ≡ None → AgreeFromReset (circuit_of a) (circuit_of b)
  pub judgement_is : j ≡ judgement_of (first_apart made.pairs)
  pub text_is : text ≡ signals_text a b made
