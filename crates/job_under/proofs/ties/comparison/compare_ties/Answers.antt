use Rattle.std.proofs.Common.{sym, subst, Result}
use Rattle.job_base.specs.declared.finding.Finding.{Finding}
use Rattle.job_base.specs.declared.finding.Stop.{Stop}
use Rattle.job_base.specs.sec_files.job_files.Reading.{ReadFailed}
use Rattle.job_under.specs.Found.{under_paths}
use Rattle.job_under.specs.ties.Judged.{AreJudged}
use Rattle.job_under.specs.ties.Found.{TiesRefuse}
use Rattle.job_under.specs.ties.Ends.{TiesFound}
use Rattle.job_under.proofs.Finds.{nets_end}
use Rattle.job_under.proofs.Unread.{unread_ends}
use Rattle.job_under.proofs.ties.comparison.compare_ties.Goals as goal

pub returns-in-Whole-clause-found : goal.returns-in-Whole-clause-found
returns-in-Whole-clause-found g c =
    let p = c.args.comparison.now in
    let left = p.left.now in
    let right = p.right.now in
    let assumed = p.assumed.now in
    let held = g.S.Shelf.held c.args.shelf.now in
    let before = g.S.Shelf.faults c.args.shelf.now in
    let now = g.S.Shelf.faults c.read_three.new.shelf in
    let read = c.in-Whole.ensures.read in
    subst (λ (r : Result Finding Stop). TiesFound held before now left right assumed p.conflicts r) (sym c.under_end.ensures)
    (nets_end (TiesRefuse p.conflicts) (AreJudged p.conflicts) (held left) (held right) (held assumed) (ReadFailed held before now (under_paths left right assumed)) c.in-Whole.a c.in-Whole.b c.in-Whole.c c.judge_ties-judged.result read.0
    read.1 read.2 c.judge_ties-judged.ensures)
