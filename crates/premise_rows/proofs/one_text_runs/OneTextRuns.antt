-- A run that compares a text with itself ends equal, or at want of memory.
use Rattle.std.proofs.Common.{ℕ, List, Option, Some, None, refl, sym, subst}
use Rattle.pair_decide.specs.declared.query.Proof.{Proof}
use Rattle.command_line.specs.declared.task.Task.{Task}
use Rattle.command_line.specs.declared.task.Task.TheVariants as task
use Rattle.job_base.specs.declared.finding.Finding.{Finding}
use Rattle.job_base.specs.declared.status.StatusName.{StatusName}
use Rattle.job_base.specs.declared.status.StatusName.TheVariants as status
use Rattle.job_base.specs.sec_files.job_files.Reading.{Held}
use Rattle.sec_run.specs.check_meaning.Answer.{IsAnswer}
use Rattle.sec_run.specs.Answer.{EndsAs, IsFinding}
use Rattle.job_base.specs.Written.{status_of}
use Rattle.sec_run.specs.Promises.{IsComplete}
use Rattle.premise_rows.specs.one_text_runs.one_text.Itself.{IsEqualAnswer, OfCheck}
use Rattle.premise_rows.proofs.one_text_runs.one_text.Itself.{CanMeetItself, check_answered, check_equal}

job_equal : (held : Held) (job : Option Task) (f : Finding) → OfCheck job (CanMeetItself held) → IsFinding held job f → IsAnswer (status_of f) → IsEqualAnswer (status_of f)
job_equal held None f can found is = absurd can
job_equal held (Some (task.Check a b settings None)) f can found is = check_equal held a b settings f settings.mode settings.reset refl refl can found is
job_equal held (Some (task.Check a b settings (Some path))) f can found is = absurd can
job_equal held (Some (task.CheckSettles a b settings assumed)) f can found is = absurd can
job_equal held (Some (task.CheckPair a b pair settings)) f can found is = absurd can
job_equal held (Some (task.CheckRenamed a b pairs settings)) f can found is = absurd can
job_equal held (Some (task.Graph a mode)) f can found is = absurd can
job_equal held (Some (task.Sim a s mode power reset)) f can found is = absurd can
job_equal held (Some (task.SimAfter a s rows power)) f can found is = absurd can
job_equal held (Some (task.Replay a b s mode settles)) f can found is = absurd can
job_equal held (Some (task.ReplayReset a b s settles)) f can found is = absurd can
job_equal held (Some (task.ReplayAfter a b s rows settles)) f can found is = absurd can
job_equal held (Some (task.Settle a b s mode)) f can found is = absurd can
job_equal held (Some (task.Gen seed regroup conflicts)) f can found is = absurd can
job_equal held (Some (task.Lrat a b)) f can found is = absurd can
job_equal held (Some (task.Cert a b pair form conflicts)) f can found is = absurd can
job_equal held (Some (task.Search a b cycles conflicts)) f can found is = absurd can
job_equal held (Some (task.SearchUnder a b c cycles conflicts)) f can found is = absurd can
job_equal held (Some (task.After a b s cycles conflicts)) f can found is = absurd can
job_equal held (Some (task.AfterUnder a b c s cycles conflicts)) f can found is = absurd can
job_equal held (Some (task.Induct a b conflicts)) f can found is = absurd can
job_equal held (Some (task.InductSignals a b conflicts)) f can found is = absurd can
job_equal held (Some (task.InductUnder a b c conflicts)) f can found is = absurd can
job_equal held (Some (task.InductAfter a b s signals conflicts)) f can found is = absurd can
job_equal held (Some (task.InductAfterUnder a b c s conflicts)) f can found is = absurd can

pub is_answered : (held : Held) (job : Option Task) (name : StatusName) → OfCheck job (CanMeetItself held) → IsComplete held job name → IsAnswer name
is_answered held None name can complete = absurd can
is_answered held (Some (task.Check a b settings None)) name can complete = check_answered held a b settings name settings.mode settings.reset refl can complete
is_answered held (Some (task.Check a b settings (Some path))) name can complete = absurd can
is_answered held (Some (task.CheckSettles a b settings assumed)) name can complete = absurd can
is_answered held (Some (task.CheckPair a b pair settings)) name can complete = absurd can
is_answered held (Some (task.CheckRenamed a b pairs settings)) name can complete = absurd can
is_answered held (Some (task.Graph a mode)) name can complete = absurd can
is_answered held (Some (task.Sim a s mode power reset)) name can complete = absurd can
is_answered held (Some (task.SimAfter a s rows power)) name can complete = absurd can
is_answered held (Some (task.Replay a b s mode settles)) name can complete = absurd can
is_answered held (Some (task.ReplayReset a b s settles)) name can complete = absurd can
is_answered held (Some (task.ReplayAfter a b s rows settles)) name can complete = absurd can
is_answered held (Some (task.Settle a b s mode)) name can complete = absurd can
is_answered held (Some (task.Gen seed regroup conflicts)) name can complete = absurd can
is_answered held (Some (task.Lrat a b)) name can complete = absurd can
is_answered held (Some (task.Cert a b pair form conflicts)) name can complete = absurd can
is_answered held (Some (task.Search a b cycles conflicts)) name can complete = absurd can
is_answered held (Some (task.SearchUnder a b c cycles conflicts)) name can complete = absurd can
is_answered held (Some (task.After a b s cycles conflicts)) name can complete = absurd can
is_answered held (Some (task.AfterUnder a b c s cycles conflicts)) name can complete = absurd can
is_answered held (Some (task.Induct a b conflicts)) name can complete = absurd can
is_answered held (Some (task.InductSignals a b conflicts)) name can complete = absurd can
is_answered held (Some (task.InductUnder a b c conflicts)) name can complete = absurd can
is_answered held (Some (task.InductAfter a b s signals conflicts)) name can complete = absurd can
is_answered held (Some (task.InductAfterUnder a b c s conflicts)) name can complete = absurd can

-- the run ends equal, or at want of memory
pub ends_equal : (held : Held) (before now : Option (List ℕ)) (job : Option Task) (proofs : List Proof) (name : StatusName) → EndsAs before now held job proofs name → OfCheck job (CanMeetItself held) → IsAnswer name → IsEqualAnswer name
ends_equal held before now job proofs status.Equal ends can is = tt
ends_equal held before now job proofs status.NoMemory ends can is = tt
ends_equal held before now job proofs status.Different ends can is = subst IsEqualAnswer ends.3 (job_equal held job ends.0 can ends.1 (subst IsAnswer (sym ends.3) is))
ends_equal held before now job proofs status.NotShown ends can is = subst IsEqualAnswer ends.3 (job_equal held job ends.0 can ends.1 (subst IsAnswer (sym ends.3) is))
ends_equal held before now job proofs status.Limit ends can is = subst IsEqualAnswer ends.3 (job_equal held job ends.0 can ends.1 (subst IsAnswer (sym ends.3) is))
ends_equal held before now job proofs status.Refused ends can is = absurd is
ends_equal held before now job proofs status.Words ends can is = absurd is
ends_equal held before now job proofs status.ReadFault ends can is = absurd is
ends_equal held before now job proofs status.WriteFault ends can is = absurd is
ends_equal held before now job proofs status.Cyclic ends can is = absurd is
ends_equal held before now job proofs status.Done ends can is = absurd is
