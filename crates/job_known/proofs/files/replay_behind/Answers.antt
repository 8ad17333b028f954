-- One of the files isn't loaded, those before it being so; or all are, and the circuits are run.
use Rattle.std.specs.Prelude.{IfSome}
use Rattle.std.proofs.Common.{ℕ, List, sym, subst, Option, Result}
use Rattle.job_base.specs.sec_files.Stimuli.{IsStimulus}
use Rattle.job_base.specs.declared.finding.Finding.{Finding}
use Rattle.job_base.specs.declared.finding.Stop.{Stop}
use Rattle.job_base.specs.Reading.{ReadFailedAfter}
use Rattle.job_base.proofs.sec_files.job_files.Loading.{later_stimulus}
use Rattle.job_base.proofs.sec_files.job_files.Reading.{is_loaded}
use Rattle.job_circuit.specs.SimBehind.{LetsGoOn}
use Rattle.job_circuit.proofs.SimBehindFinds.{is_spelled}
use Rattle.job_known.specs.Found.{known_paths, BehindFound}
use Rattle.job_known.proofs.Finds.{behind_end}
use Rattle.job_known.proofs.Unread.{four_end, last_ends}
use Rattle.job_known.proofs.files.replay_behind.Goals as goal

pub returns-in-Ok-clause-found : goal.returns-in-Ok-clause-found
returns-in-Ok-clause-found g c =
    let p = c.args.paths.now in
    let first = c.args.before.now in
    let held = g.S.Shelf.held c.args.shelf.now in
    let earlier = g.S.Shelf.faults c.args.shelf.now in
    let now = g.S.Shelf.faults c.load_stimulus.new.shelf in
    let read = c.in-Whole.ensures.read in
    let u = c.in-Whole.first in
    let s = c.in-Ok.stimulus in
    let spells : IfSome (held p.stimulus.now) (λ z. IsStimulus z s.names s.rows) = subst (λ (o : Option (List ℕ)). IfSome o (λ z. IsStimulus z s.names s.rows)) (c.read_files.ensures.keeps p.stimulus.now) c.in-Ok.ensures.ok in
    subst (λ (r : Result Finding Stop). BehindFound c.args.settles held earlier now p.left.now p.right.now first p.stimulus.now r) (sym c.after_end.ensures)
    (behind_end c.args.settles (held p.left.now) (held p.right.now) (held first) (held p.stimulus.now) (ReadFailedAfter LetsGoOn held earlier now (known_paths p.left.now p.right.now first p.stimulus.now)) c.in-Whole.a c.in-Whole.b
    u.names u.rows s.names s.rows c.judge_behind-judged.result read.0 read.1 read.2 spells c.judge_behind-judged.ensures)

pub returns-in-Err-clause-found : goal.returns-in-Err-clause-found
returns-in-Err-clause-found g c =
    let p = c.args.paths.now in
    let first = c.args.before.now in
    let path = p.stimulus.now in
    let held = g.S.Shelf.held c.args.shelf.now in
    let earlier = g.S.Shelf.faults c.args.shelf.now in
    let middle = g.S.Shelf.faults c.read_files.new.shelf in
    let now = g.S.Shelf.faults c.load_stimulus.new.shelf in
    let read = c.in-Whole.ensures.read in
    let u = c.in-Whole.first in
    subst (λ (r : Result Finding Stop). BehindFound c.args.settles held earlier now p.left.now p.right.now first path r) (sym c.stimulus_end.ensures)
    (last_ends c.args.settles held earlier now p.left.now p.right.now first path (is_loaded (held p.left.now) c.in-Whole.a read.0) (is_loaded (held p.right.now) c.in-Whole.b read.1) (is_spelled (held first) u.names u.rows read.2) c.in-Err.error
    (later_stimulus (g.S.Shelf.held c.read_files.new.shelf path) (held path) (earlier path) (middle path) (now path) c.in-Err.error (c.read_files.ensures.keeps path) (c.read_files.ensures.later path) c.in-Err.ensures.err))

pub returns-in-Ended-clause-found : goal.returns-in-Ended-clause-found
returns-in-Ended-clause-found g c =
    let p = c.args.paths.now in
    let held = g.S.Shelf.held c.args.shelf.now in
    let earlier = g.S.Shelf.faults c.args.shelf.now in
    let now = g.S.Shelf.faults c.read_files.new.shelf in
    four_end c.args.settles held earlier now p.left.now p.right.now c.args.before.now p.stimulus.now c.in-Ended.end c.in-Ended.ensures.read
