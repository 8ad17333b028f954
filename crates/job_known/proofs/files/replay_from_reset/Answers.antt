-- One of the files isn't loaded; or all are, and the circuits are run.
use Rattle.std.proofs.Common.{sym, subst, Result}
use Rattle.job_base.specs.declared.finding.Finding.{Finding}
use Rattle.job_base.specs.declared.finding.Stop.{Stop}
use Rattle.job_base.specs.sec_files.job_files.Reading.{ReadFailed}
use Rattle.job_circuit.specs.job_replay.Replays.{replay_paths}
use Rattle.job_known.specs.Found.{ResetFound}
use Rattle.job_known.proofs.Finds.{reset_end}
use Rattle.job_known.proofs.Unread.{three_end}
use Rattle.job_known.proofs.files.replay_from_reset.Goals as goal

pub judge_from_reset-judged-requires-clause-few : goal.judge_from_reset-judged-requires-clause-few
judge_from_reset-judged-requires-clause-few g c = c.in-Whole.ensures.read.5

pub returns-in-Whole-clause-found : goal.returns-in-Whole-clause-found
returns-in-Whole-clause-found g c =
    let p = c.args.paths.now in
    let held = g.S.Shelf.held c.args.shelf.now in
    let before = g.S.Shelf.faults c.args.shelf.now in
    let now = g.S.Shelf.faults c.read_files.new.shelf in
    let read = c.in-Whole.ensures.read in
    subst (λ (r : Result Finding Stop). ResetFound c.args.settles held before now p.left.now p.right.now p.stimulus.now r) (sym c.after_end.ensures)
    (reset_end c.args.settles (held p.left.now) (held p.right.now) (held p.stimulus.now) (ReadFailed held before now (replay_paths p.left.now p.right.now p.stimulus.now)) c.in-Whole.a c.in-Whole.b c.in-Whole.stimulus.names c.in-Whole.stimulus.rows
    c.judge_from_reset-judged.result read.0 read.1 read.2 c.judge_from_reset-judged.ensures)

pub returns-in-Ended-clause-found : goal.returns-in-Ended-clause-found
returns-in-Ended-clause-found g c =
    let p = c.args.paths.now in
    let held = g.S.Shelf.held c.args.shelf.now in
    let before = g.S.Shelf.faults c.args.shelf.now in
    let now = g.S.Shelf.faults c.read_files.new.shelf in
    three_end c.args.settles (held p.left.now) (held p.right.now) (held p.stimulus.now) (ReadFailed held before now (replay_paths p.left.now p.right.now p.stimulus.now)) c.in-Ended.end c.in-Ended.ensures.read
