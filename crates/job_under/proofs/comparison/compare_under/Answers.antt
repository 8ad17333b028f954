use Rattle.std.proofs.Common.{sym, subst, Result}
use Rattle.job_base.specs.declared.finding.Finding.{Finding}
use Rattle.job_base.specs.declared.finding.Stop.{Stop}
use Rattle.job_base.specs.sec_files.job_files.Reading.{ReadFailed}
use Rattle.job_under.specs.Judged.{IsJudged}
use Rattle.job_under.specs.Found.{under_paths, SearchRefuses}
use Rattle.job_under.specs.Ends.{UnderJob, UnderFound}
use Rattle.job_under.proofs.Finds.{nets_end}
use Rattle.job_under.proofs.Unread.{unread_ends}
use Rattle.job_under.proofs.comparison.compare_under.Goals as goal

pub returns-in-Whole-clause-found : goal.returns-in-Whole-clause-found
returns-in-Whole-clause-found g c =
    let p = c.args.comparison.now in
    let job : UnderJob = record { left = p.left.now; right = p.right.now; assumed = p.assumed.now; cycles = p.cycles; conflicts = p.conflicts } in
    let held = g.S.Shelf.held c.args.shelf.now in
    let before = g.S.Shelf.faults c.args.shelf.now in
    let now = g.S.Shelf.faults c.read_three.new.shelf in
    let read = c.in-Whole.ensures.read in
    subst (λ (r : Result Finding Stop). UnderFound held before now job r) (sym c.under_end.ensures)
    (nets_end (SearchRefuses job.cycles job.conflicts) (λ a b s j proofs text. IsJudged a b s job.cycles job.conflicts j proofs text) (held job.left) (held job.right) (held job.assumed) (ReadFailed held before now (under_paths job.left job.right job.assumed)) c.in-Whole.a c.in-Whole.b c.in-Whole.c
    c.judge_under-judged.result read.0 read.1 read.2 c.judge_under-judged.ensures)
