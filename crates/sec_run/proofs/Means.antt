-- How a run ends with a written finding.
use Rattle.std.proofs.Common.{◌≡◌, ℕ, List, Option}
use Rattle.command_line.specs.declared.task.Task.{Task}
use Rattle.pair_decide.specs.declared.query.Proof.{Proof}
use Rattle.job_base.specs.declared.finding.Finding.{Finding}
use Rattle.job_base.specs.declared.status.StatusName.{StatusName}
use Rattle.job_base.specs.declared.status.StatusName.TheVariants as status
use Rattle.job_base.specs.Written.{IsWrittenAs}
use Rattle.job_base.specs.Lines.{finding_text}
use Rattle.job_cert.specs.sec_files.Reading.{Held}
use Rattle.sec_run.specs.Answer.{IsFinding, IsCutOff, EndsAs}

pub written_ends : (held : Held) (job : Option Task) (before now : Option (List ℕ)) (f : Finding) (proofs : List Proof) (name : StatusName) →
    IsFinding held job f → IsWrittenAs before now f proofs name → EndsAs before now held job proofs name
written_ends held job before now f proofs status.Equal found w = (f, found, w.0, w.1, w.2)
written_ends held job before now f proofs status.Different found w = (f, found, w.0, w.1, w.2)
written_ends held job before now f proofs status.NotShown found w = (f, found, w.0, w.1, w.2)
written_ends held job before now f proofs status.Limit found w = (f, found, w.0, w.1, w.2)
written_ends held job before now f proofs status.Refused found w = (f, found, w.0, w.1, w.2)
written_ends held job before now f proofs status.Words found w = (f, found, w.0, w.1, w.2)
written_ends held job before now f proofs status.ReadFault found w = absurd w
written_ends held job before now f proofs status.WriteFault found w = (f, found, w.0, w.1)
written_ends held job before now f proofs status.NoMemory found w = w
written_ends held job before now f proofs status.Cyclic found w = (f, found, w.0, w.1, w.2)
written_ends held job before now f proofs status.Done found w = (f, found, w.0, w.1, w.2)

-- a report that is cut off isn't accepted
pub cut_off : (accepts : List ℕ → Type 0) (held : Held) (job : Option Task) (before now : Option (List ℕ)) (f : Finding) (proofs : List Proof) (name : StatusName) →
    IsFinding held job f → IsWrittenAs before now f proofs name → name ≡ status.WriteFault → (accepts (finding_text f) → ⊥) → IsCutOff accepts before now held job proofs
cut_off accepts held job before now f proofs status.Equal found w e refused = absurd (cc)
cut_off accepts held job before now f proofs status.Different found w e refused = absurd (cc)
cut_off accepts held job before now f proofs status.NotShown found w e refused = absurd (cc)
cut_off accepts held job before now f proofs status.Limit found w e refused = absurd (cc)
cut_off accepts held job before now f proofs status.Refused found w e refused = absurd (cc)
cut_off accepts held job before now f proofs status.Words found w e refused = absurd (cc)
cut_off accepts held job before now f proofs status.ReadFault found w e refused = absurd (cc)
cut_off accepts held job before now f proofs status.WriteFault found w e refused = record { finding = f; found = found; proofs_are = w.0; front = w.1; refused = refused }
cut_off accepts held job before now f proofs status.NoMemory found w e refused = absurd (cc)
cut_off accepts held job before now f proofs status.Cyclic found w e refused = absurd (cc)
cut_off accepts held job before now f proofs status.Done found w e refused = absurd (cc)
