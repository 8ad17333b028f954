-- What the work on the four files ends with.
use Rattle.std.proofs.Common.{sym, subst, Result}
use Rattle.job_base.specs.declared.finding.Finding.{Finding}
use Rattle.job_base.specs.declared.finding.Stop.{Stop}
use Rattle.job_base.specs.sec_files.job_files.Reading.{ReadFailed}
use Rattle.job_under.specs.Found.{SearchRefuses}
use Rattle.job_after_under.specs.Judged.{IsJudged}
use Rattle.job_after_under.specs.Found.{after_under_paths}
use Rattle.job_after_under.specs.Ends.{AfterUnderJob, AfterUnderFound}
use Rattle.job_after_under.proofs.Finds.{nets_end}
use Rattle.job_after_under.proofs.Unread.{unread_ends}
use Rattle.job_after_under.proofs.comparison.compare_after_under.Goals as goal

pub returns-in-Whole-clause-found : goal.returns-in-Whole-clause-found
returns-in-Whole-clause-found g c =
    let p = c.args.comparison.now in
    let job : AfterUnderJob = record { left = p.left.now; right = p.right.now; assumed = p.assumed.now; stimulus = p.stimulus.now; cycles = p.cycles; conflicts = p.conflicts } in
    let held = g.S.Shelf.held c.args.shelf.now in
    let before = g.S.Shelf.faults c.args.shelf.now in
    let now = g.S.Shelf.faults c.read_four.new.shelf in
    let read = c.in-Whole.ensures.read in
    let s = c.in-Whole.stimulus in
    subst (λ (r : Result Finding Stop). AfterUnderFound held before now job r) (sym c.fault_end.ensures)
    (nets_end (SearchRefuses job.cycles job.conflicts) (λ a b d names rows j proofs text. IsJudged a b d names rows job.cycles job.conflicts j proofs text) (held job.left) (held job.right) (held job.assumed) (held job.stimulus)
    (ReadFailed held before now (after_under_paths job.left job.right job.assumed job.stimulus)) c.in-Whole.a c.in-Whole.b c.in-Whole.c s.names s.rows c.judge-judged.result read.0 read.1 read.2 read.3 c.judge-judged.ensures)

pub returns-in-Ended-clause-found : goal.returns-in-Ended-clause-found
returns-in-Ended-clause-found g c =
    let p = c.args.comparison.now in
    let held = g.S.Shelf.held c.args.shelf.now in
    let before = g.S.Shelf.faults c.args.shelf.now in
    let now = g.S.Shelf.faults c.read_four.new.shelf in
    unread_ends (SearchRefuses p.cycles p.conflicts) (λ a b d names rows j proofs text. IsJudged a b d names rows p.cycles p.conflicts j proofs text) (held p.left.now) (held p.right.now) (held p.assumed.now) (held p.stimulus.now)
    (ReadFailed held before now (after_under_paths p.left.now p.right.now p.assumed.now p.stimulus.now)) c.in-Ended.end c.in-Ended.ensures.read
