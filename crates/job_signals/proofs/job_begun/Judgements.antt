-- What is judged of two nets behind the rows of a stimulus, or why they aren't compared.
use Rattle.std.specs.Prelude.{IsErrAnd}
use Rattle.std.proofs.Common.{◌≡◌, ◌∙◌, ℕ, Bool, true, false, List, [], ◌++◌, length, refl, sym, ap, subst, Option, Some, None, Result, Ok, Err}
use Rattle.std.specs.List.{All}
use Rattle.circuit_laws.specs.reset_laws.Reset.{AgreeFromReset}
use Rattle.flat_net.specs.View.{NetView, circuit_of}
use Rattle.pair_decide.specs.declared.query.Proof.{Proof}
use Rattle.job_circuit.specs.declared.replay.replay_header.error.ReplayError.{ReplayError}
use Rattle.job_circuit.specs.declared.replay.replay_header.error.ReplayError.TheVariants as header
use Rattle.job_base.specs.declared.finding.Judgement.{Judgement}
use Rattle.job_base.specs.declared.finding.Judgement.TheVariants as judgement
use Rattle.job_base.specs.Written.{judgement_status}
use Rattle.signal_induct.specs.Tied.{first_apart}
use Rattle.sec_jobs.specs.declared.job_induct.judging.Judged as judged_blocks
use Rattle.sec_jobs.specs.declared.job_induct.judging.JudgeError as blocks_error
use Rattle.sec_jobs.specs.declared.job_induct.judging.JudgeError.TheVariants as blocks
use Rattle.sec_jobs.specs.job_induct.Ends as blocks_ends
use Rattle.sec_jobs.proofs.job_induct.induct_meaning.Means.{equal_judged}
use Rattle.job_signals.specs.declared.judging.Judged as judged_ties
use Rattle.job_signals.specs.declared.judging.JudgeError as ties_error
use Rattle.job_signals.specs.declared.judging.JudgeError.TheVariants as ties
use Rattle.job_signals.specs.Judged.{judgement_of}
use Rattle.job_signals.specs.Ends as ties_ends
use Rattle.restart.specs.Behind.{begun, IsBegun}
use Rattle.restart.proofs.Begun.{behind_agree}
use Rattle.job_after.specs.declared.fault.AfterFault.{AfterFault}
use Rattle.job_after.specs.declared.fault.AfterFault.TheVariants as fault
use Rattle.job_after.specs.declared.judging.Judged.{Judged}
use Rattle.job_after.specs.Report.{begun_text}
use Rattle.job_after.specs.Ends.{FitsAfter, header_fault}
use Rattle.job_signals.specs.job_begun.Judged.{Begun, IsTold, IsJudged}
use Rattle.job_signals.specs.job_begun.Ends.{by_ties, by_blocks, IsToldBy, IsJudgedBy}

-- what is judged by ties, or why nothing is
pub ties_told : (conflicts : ℕ) (l r : NetView) (judged : Result judged_ties.Judged ties_error.JudgeError) → ties_ends.IsJudgedBy l r judged → IsToldBy true conflicts l r (by_ties judged)
ties_told conflicts l r (Ok j) h = (refl, h)
ties_told conflicts l r (Err (ties.Interface name)) h = h
ties_told conflicts l r (Err (ties.TooLarge side)) h = h
ties_told conflicts l r (Err ties.NoMemory) h = tt

-- by blocks
pub blocks_told : (conflicts : ℕ) (l r : NetView) (judged : Result judged_blocks.Judged blocks_error.JudgeError) → blocks_ends.IsJudgedBy l r conflicts judged → IsToldBy false conflicts l r (by_blocks judged)
blocks_told conflicts l r (Ok j) h = h
blocks_told conflicts l r (Err (blocks.Interface name)) h = h
blocks_told conflicts l r (Err (blocks.TooLarge side)) h = h
blocks_told conflicts l r (Err blocks.NoMemory) h = tt

-- equal means that no output is apart
none_apart : (apart : Option (List ℕ)) → judgement_of apart ≡ judgement.Equal → apart ≡ None
none_apart None e = refl
none_apart (Some name) e = absurd (cc)

-- nets that are judged equal agree from their initial values
equal_agrees : (signals : Bool) (conflicts : ℕ) (l r : NetView) (j : Judgement) (proofs : List Proof) (told : List ℕ) → IsTold signals conflicts l r j proofs told → j ≡ judgement.Equal → AgreeFromReset (circuit_of l) (circuit_of r)
equal_agrees true conflicts l r j proofs told h e = h.1.agree (none_apart (first_apart h.1.made.pairs) (sym h.1.judgement_is ∙ e))
equal_agrees false conflicts l r j proofs told h e = h.agree (equal_judged conflicts l r j proofs told h (ap judgement_status e))

module _ (signals : Bool) (conflicts : ℕ) (a b : NetView) (names : List (List ℕ)) (rows : List (List Bool)) where
  -- what is true of an error is true of the result that it is
  pub refused_by : (r : Result Judged AfterFault) (e : AfterFault) → IsErrAnd r (λ x. x ≡ e) → IsJudgedBy signals conflicts a b names rows (Err e) → IsJudgedBy signals conflicts a b names rows r
  refused_by (Ok x) e h p = absurd h
  refused_by (Err x) e h p = subst (λ (y : AfterFault). IsJudgedBy signals conflicts a b names rows (Err y)) (sym h) p

  -- the stimulus doesn't fit
  pub unfit : (e : ReplayError) → FitsAfter a b names (Err e) → IsJudgedBy signals conflicts a b names rows (Err (header_fault e))
  unfit (header.Unknown name) h = h
  unfit (header.Missing name) h = h
  unfit header.NoMemory h = tt

  module _ (l r : NetView) (left_known right_known : List (Option Bool)) (lb : IsBegun a names rows left_known l) (rb : IsBegun b names rows right_known r) where
    -- the nets that begin behind the rows aren't compared
    pub refused : (e : AfterFault) → IsToldBy signals conflicts l r (Err e) → IsJudgedBy signals conflicts a b names rows (Err e)
    refused (fault.Unknown name) h = absurd h
    refused (fault.Missing name) h = absurd h
    refused (fault.Interface name) h = record { left_known = left_known; right_known = right_known; left = l; right = r; left_begun = lb; right_begun = rb; said = h }
    refused (fault.Cyclic side latches) h = h
    refused (fault.TooLarge side) h = record { left_known = left_known; right_known = right_known; left = l; right = r; left_begun = lb; right_begun = rb; said = h }
    refused fault.NoMemory h = tt

    -- what is said of the nets that begin is said of the nets with what is known as their initial values
    of_begun : AgreeFromReset (circuit_of l) (circuit_of r) → AgreeFromReset (circuit_of (begun a left_known)) (circuit_of (begun b right_known))
    of_begun h =
        subst (λ (n : NetView). AgreeFromReset (circuit_of n) (circuit_of (begun b right_known))) lb.is
        (subst (λ (n : NetView). AgreeFromReset (circuit_of l) (circuit_of n)) rb.is h)

    -- both are judged
    pub judged_by : All (λ (row : List Bool). length row ≡ length names) rows → (j : Judgement) (proofs : List Proof) (told text : List ℕ) → IsTold signals conflicts l r j proofs told →
        text ≡ begun_text l r (length rows) left_known right_known ++ told → IsJudged signals conflicts a b names rows j proofs text
    judged_by wide j proofs told text s written = record {
      of = record { left_known = left_known; right_known = right_known; left = l; right = r };
      is = record { left_begun = lb; right_begun = rb };
      told = told;
      judged = s;
      agree = λ e. behind_agree names rows wide a b left_known right_known lb.each rb.each lb.are_known rb.are_known (of_begun (equal_agrees signals conflicts l r j proofs told s e));
      text_is = written;
    }
