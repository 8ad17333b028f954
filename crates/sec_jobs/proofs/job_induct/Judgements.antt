-- What is judged of two nets, or why they aren't.
use Rattle.std.specs.Prelude.{IsErrAnd}
use Rattle.std.proofs.Common.{◌≡◌, ℕ, sym, subst, None, Result, Ok, Err}
use Rattle.circuit_theory.specs.Interface.{first_mismatch}
use Rattle.circuit_laws.specs.reset_laws.Reset.{AgreeFromReset}
use Rattle.flat_net.specs.Sound.{IsSound}
use Rattle.flat_net.specs.View.{NetView, circuit_of, ports_of}
use Rattle.sec_setup.specs.declared.error.SetupError.{SetupError}
use Rattle.sec_setup.specs.declared.error.SetupError.TheVariants as unset
use Rattle.sec_setup.specs.Matching.{InterfaceFails}
use Rattle.induct.specs.declared.induction.InductVerdict.TheVariants as verdict
use Rattle.induct.specs.declared.induction.Induction.{Induction}
use Rattle.induct.specs.declared.induction.InductError.{InductError}
use Rattle.induct.specs.declared.induction.InductError.TheVariants as refused
use Rattle.induct.specs.Inductions.{IsInduction, IsRefusal}
use Rattle.induct.specs.induct_report.Report.{induct_text}
use Rattle.sec_jobs.specs.job_induct.induct_meaning.Judged.{AreLight, judgement_of, proofs_of, IsJudged}
use Rattle.sec_jobs.specs.declared.job_induct.judging.Judged.{Judged}
use Rattle.sec_jobs.specs.declared.job_induct.judging.JudgeError.{JudgeError}
use Rattle.sec_jobs.specs.job_induct.Ends.{IsMismatch, mismatch_of, refusal_of, IsJudgedBy}

-- what is true of an error is true of the result that it is
pub refused_by : (P : Result Judged JudgeError → Type 0) (r : Result Judged JudgeError) (e : JudgeError) → IsErrAnd r (λ x. x ≡ e) → P (Err e) → P r
refused_by P (Ok x) e h p = absurd h
refused_by P (Err x) e h p = subst (λ (y : JudgeError). P (Err y)) (sym h) p

module _ (a b : NetView) where
  -- the interfaces don't match
  pub is_mismatch : (e : SetupError) → InterfaceFails a b e → IsMismatch e
  is_mismatch (unset.Interface name) h = tt
  is_mismatch (unset.Cyclic side names) h = absurd h
  is_mismatch (unset.Unpaired side names) h = absurd h
  is_mismatch unset.NoMemory h = tt

  pub mismatched : (conflicts : ℕ) (e : SetupError) → InterfaceFails a b e → IsJudgedBy a b conflicts (Err (mismatch_of e))
  mismatched conflicts (unset.Interface name) h = h
  mismatched conflicts (unset.Cyclic side names) h = absurd h
  mismatched conflicts (unset.Unpaired side names) h = absurd h
  mismatched conflicts unset.NoMemory h = tt

  -- a circuit is too large
  pub oversized : (conflicts : ℕ) (e : InductError) → first_mismatch (ports_of a) (ports_of b) ≡ None → IsRefusal a b e → IsJudgedBy a b conflicts (Err (refusal_of e))
  oversized conflicts (refused.TooLarge side) matches h = (matches, h)
  oversized conflicts refused.NoMemory matches h = tt

  -- both are judged
  pub judged_by : (conflicts : ℕ) (made : Induction) (j : Judged) → IsSound a → IsSound b → first_mismatch (ports_of a) (ports_of b) ≡ None → AreLight a b → IsInduction a b conflicts made →
      (made.verdict ≡ verdict.Equal → AgreeFromReset (circuit_of a) (circuit_of b)) → j.judgement ≡ judgement_of made.verdict → j.proofs ≡ proofs_of made → j.text ≡ induct_text a b conflicts made → IsJudged a b conflicts j.judgement j.proofs j.text
  judged_by conflicts made j left right matches light is agree judgement proofs text =
      record { left_sound = left; right_sound = right; matches = matches; light = light; made = made; is = is; agree = agree; judgement_is = judgement; proofs_are = proofs; text_is = text }
