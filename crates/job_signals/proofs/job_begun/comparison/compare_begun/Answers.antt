use Rattle.std.proofs.Common.{sym, subst, Result}
use Rattle.job_base.specs.declared.finding.Finding.{Finding}
use Rattle.job_base.specs.declared.finding.Stop.{Stop}
use Rattle.job_base.specs.sec_files.job_files.Reading.{ReadFailed}
use Rattle.job_circuit.specs.job_replay.Replays.{replay_paths}
use Rattle.job_signals.specs.job_begun.Ends.{BegunJob, BegunFound}
use Rattle.job_signals.proofs.job_begun.Finds.{nets_end}
use Rattle.job_signals.proofs.job_begun.comparison.compare_begun.Goals as goal

pub returns-in-Whole-clause-found : goal.returns-in-Whole-clause-found
returns-in-Whole-clause-found g c =
    let p = c.args.comparison.now in
    let job : BegunJob = record { left = p.left.now; right = p.right.now; stimulus = p.stimulus.now; signals = p.signals; conflicts = p.conflicts } in
    let held = g.S.Shelf.held c.args.shelf.now in
    let before = g.S.Shelf.faults c.args.shelf.now in
    let now = g.S.Shelf.faults c.read_files.new.shelf in
    let read = c.in-Whole.ensures.read in
    subst (λ (r : Result Finding Stop). BegunFound held before now job r) (sym c.after_end.ensures)
    (nets_end job.signals job.conflicts (held job.left) (held job.right) (held job.stimulus) (ReadFailed held before now (replay_paths job.left job.right job.stimulus)) c.in-Whole.a c.in-Whole.b
    c.in-Whole.stimulus.names c.in-Whole.stimulus.rows c.judge_behind-judged.result read.0 read.1 read.2 c.judge_behind-judged.ensures)
