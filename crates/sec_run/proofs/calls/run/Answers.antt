use Rattle.std.specs.List.{All}
use Rattle.std.proofs.Common.{◌≡◌, [], sym, subst, ap, refl, Option, None, Err}
use Rattle.command_line.specs.declared.task.Task.{Task}
use Rattle.job_base.specs.declared.finding.Finding.TheVariants as finding
use Rattle.job_base.specs.Reading.{ReadFailedAfter}
use Rattle.job_base.proofs.Meaning.{no_read_fault}
use Rattle.sec_run.specs.Answer.{IsCutOff, IsTaken}
use Rattle.sec_run.specs.Job.{paths_in, GoesOnIn}
use Rattle.sec_run.specs.Promises.{Means, IsComplete}
use Rattle.command_line.proofs.Allowed.{is_allowed}
use Rattle.sec_run.proofs.Means.{cut_off, written_ends}
use Rattle.sec_run.proofs.Promises.{means, memory_means, written_is_complete, memory_is_complete}
use Rattle.sec_run.proofs.calls.run.Goals as goal

pub run_job-requires : goal.run_job-requires
run_job-requires g c = is_allowed _ c.in-Ok.task c.in-Ok.ensures.job

pub returns-in-Ok-clause-taken : goal.returns-in-Ok-clause-taken
returns-in-Ok-clause-taken g c =
    subst (λ (job : Option Task). IsTaken (g.W.Sink.taken c.args.out.now) (g.W.Sink.taken c.run_job.new.out) (g.S.Shelf.held c.args.shelf.now) job c.run_job.result) (sym c.in-Ok.ensures.job) c.run_job.ensures.taken

pub returns-in-Ok-clause-means : goal.returns-in-Ok-clause-means
returns-in-Ok-clause-means g c =
    subst (λ (job : Option Task). Means (g.S.Shelf.held c.args.shelf.now) job (g.W.Sink.taken c.args.out.now) (g.W.Sink.taken c.run_job.new.out) c.run_job.result.proofs c.run_job.result.name) (sym c.in-Ok.ensures.job)
    c.run_job.ensures.means

pub returns-in-Ok-clause-read_fault : goal.returns-in-Ok-clause-read_fault
returns-in-Ok-clause-read_fault g c is =
    subst (λ (job : Option Task). ReadFailedAfter (GoesOnIn job) (g.S.Shelf.held c.args.shelf.now) (g.S.Shelf.faults c.args.shelf.now) (g.S.Shelf.faults c.run_job.new.shelf) (paths_in job)) (sym c.in-Ok.ensures.job)
    (c.run_job.ensures.read_fault is)

pub returns-in-Ok-clause-complete : goal.returns-in-Ok-clause-complete
returns-in-Ok-clause-complete g c read write =
    subst (λ (job : Option Task). IsComplete (g.S.Shelf.held c.args.shelf.now) job c.run_job.result.name) (sym c.in-Ok.ensures.job) (c.run_job.ensures.complete read write)

pub returns-in-Ok-clause-served : goal.returns-in-Ok-clause-served
returns-in-Ok-clause-served g c all =
    c.run_job.ensures.served (subst (λ (job : Option Task). All (g.S.Shelf.serves c.args.shelf.now) (paths_in job)) c.in-Ok.ensures.job all)

pub returns-in-Ok-clause-keeps : goal.returns-in-Ok-clause-keeps
returns-in-Ok-clause-keeps g c = (c.run_job.ensures.keeps.0, c.run_job.ensures.keeps.1)

pub returns-in-Ok-clause-idle : goal.returns-in-Ok-clause-idle
returns-in-Ok-clause-idle g c none = c.run_job.ensures.keeps.2 (subst (λ (job : Option Task). paths_in job ≡ []) c.in-Ok.ensures.job none)

pub returns-in-Ok-clause-accepted : goal.returns-in-Ok-clause-accepted
returns-in-Ok-clause-accepted g c is =
    subst (λ (job : Option Task). IsCutOff (g.W.Sink.accepts c.args.out.now) (g.W.Sink.taken c.args.out.now) (g.W.Sink.taken c.run_job.new.out) (g.S.Shelf.held c.args.shelf.now) job c.run_job.result.proofs) (sym c.in-Ok.ensures.job)
    (c.run_job.ensures.accepted is)

pub returns-in-Err-Refused-clause-accepted : goal.returns-in-Err-Refused-clause-accepted
returns-in-Err-Refused-clause-accepted g c is =
    let held = g.S.Shelf.held c.args.shelf.now in
    let before = g.W.Sink.taken c.args.out.now in
    let now = g.W.Sink.taken c.finish.new.out in
    subst (λ (job : Option Task). IsCutOff (g.W.Sink.accepts c.args.out.now) before now held job c.finish.result.proofs) (sym (c.in-Err-Refused.ensures.refused (ap Err c.in-Err-Refused.field-0-is)))
    (cut_off (g.W.Sink.accepts c.args.out.now) held None before now finding.Words c.finish.result.proofs c.finish.result.name refl c.finish.ensures.written is (λ h. c.finish.ensures.accepted h is))

pub returns-in-Err-Refused-clause-taken : goal.returns-in-Err-Refused-clause-taken
returns-in-Err-Refused-clause-taken g c =
    let held = g.S.Shelf.held c.args.shelf.now in
    let before = g.W.Sink.taken c.args.out.now in
    let now = g.W.Sink.taken c.finish.new.out in
    subst (λ (job : Option Task). IsTaken before now held job c.finish.result) (sym (c.in-Err-Refused.ensures.refused (ap Err c.in-Err-Refused.field-0-is)))
    (written_ends held None before now finding.Words c.finish.result.proofs c.finish.result.name refl c.finish.ensures.written)

pub returns-in-Err-Refused-clause-means : goal.returns-in-Err-Refused-clause-means
returns-in-Err-Refused-clause-means g c =
    let held = g.S.Shelf.held c.args.shelf.now in
    let before = g.W.Sink.taken c.args.out.now in
    let now = g.W.Sink.taken c.finish.new.out in
    subst (λ (job : Option Task). Means held job before now c.finish.result.proofs c.finish.result.name) (sym (c.in-Err-Refused.ensures.refused (ap Err c.in-Err-Refused.field-0-is)))
    (means held None before now finding.Words c.finish.result.proofs c.finish.result.name refl c.finish.ensures.written)

pub returns-in-Err-Refused-clause-complete : goal.returns-in-Err-Refused-clause-complete
returns-in-Err-Refused-clause-complete g c read write =
    let held = g.S.Shelf.held c.args.shelf.now in
    let before = g.W.Sink.taken c.args.out.now in
    let now = g.W.Sink.taken c.finish.new.out in
    subst (λ (job : Option Task). IsComplete held job c.finish.result.name) (sym (c.in-Err-Refused.ensures.refused (ap Err c.in-Err-Refused.field-0-is)))
    (written_is_complete held None before now finding.Words c.finish.result.proofs c.finish.result.name refl c.finish.ensures.written write)

pub returns-in-Err-Refused-clause-read_fault : goal.returns-in-Err-Refused-clause-read_fault
returns-in-Err-Refused-clause-read_fault g c is =
    absurd (no_read_fault (g.W.Sink.taken c.args.out.now) (g.W.Sink.taken c.finish.new.out) finding.Words c.finish.result.proofs c.finish.result.name c.finish.ensures.written is)

pub returns-in-Err-Refused-clause-served : goal.returns-in-Err-Refused-clause-served
returns-in-Err-Refused-clause-served g c all =
    no_read_fault (g.W.Sink.taken c.args.out.now) (g.W.Sink.taken c.finish.new.out) finding.Words c.finish.result.proofs c.finish.result.name c.finish.ensures.written

pub returns-in-Err-NoMemory-clause-means : goal.returns-in-Err-NoMemory-clause-means
returns-in-Err-NoMemory-clause-means g c =
    let held = g.S.Shelf.held c.args.shelf.now in
    let before = g.W.Sink.taken c.args.out.now in
    subst (Means held _ before before c.bare.result.proofs) (sym c.bare.ensures.name) (memory_means held _ before before c.bare.result.proofs)

pub returns-in-Err-NoMemory-clause-complete : goal.returns-in-Err-NoMemory-clause-complete
returns-in-Err-NoMemory-clause-complete g c read write =
    let held = g.S.Shelf.held c.args.shelf.now in
    subst (IsComplete held _) (sym c.bare.ensures.name) (memory_is_complete held _)
