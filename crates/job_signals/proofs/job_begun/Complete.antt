-- Where two circuits can be compared behind the rows of a stimulus, they are.
use Rattle.std.proofs.Common.{◌≡◌, ℕ, Bool, true, false, List, sym, subst, Option, Some, None}
use Rattle.flat_net.specs.View.{NetView}
use Rattle.pair_decide.specs.declared.query.Proof.{Proof}
use Rattle.job_base.specs.declared.finding.Judgement.{Judgement}
use Rattle.job_base.specs.declared.finding.Finding.{Finding}
use Rattle.job_base.specs.declared.finding.Finding.TheVariants as finding
use Rattle.job_base.specs.Written.{status_of, judgement_status}
use Rattle.signal_induct.specs.Tied.{first_apart}
use Rattle.sec_jobs.specs.job_induct.induct_meaning.Answer.{IsInductAnswer}
use Rattle.sec_jobs.proofs.job_induct.induct_meaning.Complete as blocks
use Rattle.job_signals.specs.Judged.{judgement_of}
use Rattle.job_after.proofs.Complete.{no_refusal}
use Rattle.job_signals.specs.job_begun.Judged.{IsTold}
use Rattle.job_signals.specs.job_begun.Found.{IsHeavy, IsBegunFound}
use Rattle.job_signals.specs.job_begun.Answer.{IsBegunComplete}

tied : (apart : Option (List ℕ)) → IsInductAnswer (judgement_status (judgement_of apart))
tied None = tt
tied (Some name) = tt

judged : (signals : Bool) (conflicts : ℕ) (l r : NetView) (j : Judgement) (proofs : List Proof) (told : List ℕ) → IsTold signals conflicts l r j proofs told → IsInductAnswer (judgement_status j)
judged true conflicts l r j proofs told h = subst (λ (k : Judgement). IsInductAnswer (judgement_status k)) (sym h.1.judgement_is) (tied (first_apart h.1.made.pairs))
judged false conflicts l r j proofs told h = subst (λ (k : Judgement). IsInductAnswer (judgement_status k)) (sym h.judgement_is) (blocks.judged h.made.verdict)

-- what is found has the status of a verdict
pub begun_complete : (signals : Bool) (conflicts : ℕ) (left right stimulus : Option (List ℕ)) (f : Finding) → IsBegunFound signals conflicts left right stimulus f → IsBegunComplete left right stimulus (status_of f)
begun_complete signals conflicts left right stimulus finding.Words h can = absurd h
begun_complete signals conflicts left right stimulus (finding.Refused r) h can = absurd (no_refusal IsHeavy left right stimulus can r h)
begun_complete signals conflicts left right stimulus (finding.Cyclic side names) h can = absurd h
begun_complete signals conflicts left right stimulus (finding.Unpaired side names) h can = absurd h
begun_complete signals conflicts left right stimulus (finding.Checked o s) h can = absurd h
begun_complete signals conflicts left right stimulus (finding.Done text) h can = absurd h
begun_complete signals conflicts left right stimulus (finding.Generated o report) h can = absurd h
begun_complete signals conflicts left right stimulus (finding.Replayed differences) h can = absurd h
begun_complete signals conflicts left right stimulus (finding.Undecided side name proof) h can = absurd h
begun_complete signals conflicts left right stimulus (finding.Unrefuted u) h can = absurd h
begun_complete signals conflicts left right stimulus (finding.Judged j proofs text) h can = judged signals conflicts h.said.of.left h.said.of.right j proofs h.said.told h.said.judged
