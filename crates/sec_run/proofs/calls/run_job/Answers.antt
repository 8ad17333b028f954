use Rattle.std.proofs.Common.{sym, subst, Some}
use Rattle.sec_run.specs.Promises.{Means, IsComplete}
use Rattle.sec_run.proofs.Means.{cut_off}
use Rattle.sec_run.proofs.Promises.{means, memory_means, fault_means, written_is_complete, memory_is_complete}
use Rattle.sec_run.proofs.calls.run_job.Goals as goal

pub returns-in-Ok-clause-means : goal.returns-in-Ok-clause-means
returns-in-Ok-clause-means g c =
    means (g.S.Shelf.held c.args.shelf.now) (Some c.args.task.now) (g.W.Sink.taken c.args.out.now) (g.W.Sink.taken c.finish.new.out) c.in-Ok.finding c.finish.result.proofs c.finish.result.name
    c.in-Ok.ensures.found c.finish.ensures.written

pub returns-in-Ok-clause-complete : goal.returns-in-Ok-clause-complete
returns-in-Ok-clause-complete g c read write =
    written_is_complete (g.S.Shelf.held c.args.shelf.now) (Some c.args.task.now) (g.W.Sink.taken c.args.out.now) (g.W.Sink.taken c.finish.new.out) c.in-Ok.finding c.finish.result.proofs c.finish.result.name
    c.in-Ok.ensures.found c.finish.ensures.written write

pub returns-in-Ok-clause-accepted : goal.returns-in-Ok-clause-accepted
returns-in-Ok-clause-accepted g c is =
    cut_off (g.W.Sink.accepts c.args.out.now) (g.S.Shelf.held c.args.shelf.now) (Some c.args.task.now) (g.W.Sink.taken c.args.out.now) (g.W.Sink.taken c.finish.new.out) c.in-Ok.finding c.finish.result.proofs c.finish.result.name
    c.in-Ok.ensures.found c.finish.ensures.written is (λ h. c.finish.ensures.accepted h is)

pub returns-in-Err-ReadFault-clause-means : goal.returns-in-Err-ReadFault-clause-means
returns-in-Err-ReadFault-clause-means g c =
    let held = g.S.Shelf.held c.args.shelf.now in
    let before = g.W.Sink.taken c.args.out.now in
    subst (Means held (Some c.args.task.now) before before c.bare.result.proofs) (sym c.bare.ensures.name) (fault_means held (Some c.args.task.now) before before c.bare.result.proofs)

pub returns-in-Err-NoMemory-clause-means : goal.returns-in-Err-NoMemory-clause-means
returns-in-Err-NoMemory-clause-means g c =
    let held = g.S.Shelf.held c.args.shelf.now in
    let before = g.W.Sink.taken c.args.out.now in
    subst (Means held (Some c.args.task.now) before before c.bare-in-Err-NoMemory.result.proofs) (sym c.bare-in-Err-NoMemory.ensures.name) (memory_means held (Some c.args.task.now) before before c.bare-in-Err-NoMemory.result.proofs)

pub returns-in-Err-NoMemory-clause-complete : goal.returns-in-Err-NoMemory-clause-complete
returns-in-Err-NoMemory-clause-complete g c read write =
    let held = g.S.Shelf.held c.args.shelf.now in
    subst (IsComplete held (Some c.args.task.now)) (sym c.bare-in-Err-NoMemory.ensures.name) (memory_is_complete held (Some c.args.task.now))
