-- One of the files isn't loaded, those before it being so.
use Rattle.std.specs.Prelude.{IfSome}
use Rattle.std.proofs.Common.{◌≡◌, ℕ, List, sym, subst, Option, Result}
use Rattle.job_base.specs.sec_files.Stimuli.{IsStimulus}
use Rattle.job_base.specs.declared.finding.Finding.{Finding}
use Rattle.job_base.specs.declared.finding.Stop.{Stop}
use Rattle.job_base.specs.Ends.{EndsBy}
use Rattle.job_base.specs.sec_files.job_files.Reading.{Held, ReadFailed}
use Rattle.job_base.proofs.sec_files.job_files.Loading.{later_stimulus}
use Rattle.job_base.proofs.sec_files.job_files.Reading.{is_loaded}
use Rattle.job_after_under.specs.Found.{after_under_paths, IsUnread}
use Rattle.job_after_under.proofs.Unread.{three_end, last_ends}
use Rattle.job_after_under.proofs.reading.read_four.Goals as goal

abbrev Ends : Held → (List ℕ → ℕ) → (List ℕ → ℕ) → List ℕ → List ℕ → List ℕ → List ℕ → Result Finding Stop → Type 0
Ends held before now left right assumed stimulus r = EndsBy (IsUnread (held left) (held right) (held assumed) (held stimulus)) (ReadFailed held before now (after_under_paths left right assumed stimulus)) r

pub returns-in-Ok-clause-read : goal.returns-in-Ok-clause-read
returns-in-Ok-clause-read g c =
    let held = g.S.Shelf.held c.args.shelf.now in
    let read = c.in-Whole.ensures.read in
    let s = c.in-Ok.stimulus in
    (read.0, read.1, read.2, subst (λ (o : Option (List ℕ)). IfSome o (λ z. IsStimulus z s.names s.rows)) (c.read_three.ensures.keeps c.args.paths.now.stimulus.now) c.in-Ok.ensures.ok, read.3, read.4, read.5)

pub returns-in-Err-clause-read : goal.returns-in-Err-clause-read
returns-in-Err-clause-read g c =
    let p = c.args.paths.now in
    let stimulus = p.stimulus.now in
    let held = g.S.Shelf.held c.args.shelf.now in
    let before = g.S.Shelf.faults c.args.shelf.now in
    let middle = g.S.Shelf.faults c.read_three.new.shelf in
    let now = g.S.Shelf.faults c.load_stimulus.new.shelf in
    let read = c.in-Whole.ensures.read in
    subst (λ (r : Result Finding Stop). Ends held before now p.left.now p.right.now p.assumed.now stimulus r) (sym c.stimulus_end.ensures)
    (last_ends held before now p.left.now p.right.now p.assumed.now stimulus (is_loaded (held p.left.now) c.in-Whole.a read.0) (is_loaded (held p.right.now) c.in-Whole.b read.1) (is_loaded (held p.assumed.now) c.in-Whole.c read.2) c.in-Err.error
    (later_stimulus (g.S.Shelf.held c.read_three.new.shelf stimulus) (held stimulus) (before stimulus) (middle stimulus) (now stimulus) c.in-Err.error (c.read_three.ensures.keeps stimulus) (c.read_three.ensures.later stimulus)
    c.in-Err.ensures.err))

pub returns-in-Ended-clause-read : goal.returns-in-Ended-clause-read
returns-in-Ended-clause-read g c =
    let p = c.args.paths.now in
    let held = g.S.Shelf.held c.args.shelf.now in
    let before = g.S.Shelf.faults c.args.shelf.now in
    let now = g.S.Shelf.faults c.read_three.new.shelf in
    three_end held before now p.left.now p.right.now p.assumed.now p.stimulus.now c.in-Ended.end c.in-Ended.ensures.read
