-- One of the files isn't loaded, those before it being so.
use Rattle.std.specs.Prelude.{IfSome}
use Rattle.std.proofs.Common.{◌∙◌, ◌≤◌, ℕ, List, sym, subst, arith, Option, Result}
use Rattle.job_base.specs.sec_files.Loading.{Loads}
use Rattle.job_base.specs.declared.finding.Finding.{Finding}
use Rattle.job_base.specs.declared.finding.Stop.{Stop}
use Rattle.job_base.specs.Ends.{EndsBy}
use Rattle.job_base.specs.sec_files.job_files.Reading.{Held, ReadFailed}
use Rattle.job_base.proofs.sec_files.job_files.Loading.{later_fails, later_stimulus}
use Rattle.job_base.proofs.sec_files.job_files.Reading.{is_loaded}
use Rattle.job_circuit.specs.job_replay.Replays.{replay_paths}
use Rattle.job_after.specs.Answer.{IsUnread}
use Rattle.job_after.proofs.Unread.{left_ends, right_ends, over_ends}
use Rattle.job_after.proofs.reading.read_files.Goals as goal

abbrev Ends : Held → (List ℕ → ℕ) → (List ℕ → ℕ) → List ℕ → List ℕ → List ℕ → Result Finding Stop → Type 0
Ends held before now left right stimulus r = EndsBy (IsUnread (held left) (held right) (held stimulus)) (ReadFailed held before now (replay_paths left right stimulus)) r

grown : (a b c : ℕ) → a ≤ b → b ≤ c → a ≤ c
grown a b c p q = omega (arith, p, q)

pub returns-in-Err-clause-read : goal.returns-in-Err-clause-read
returns-in-Err-clause-read g c =
    let p = c.args.paths.now in
    let held = g.S.Shelf.held c.args.shelf.now in
    let before = g.S.Shelf.faults c.args.shelf.now in
    let now = g.S.Shelf.faults c.load.new.shelf in
    subst (λ (r : Result Finding Stop). Ends held before now p.left.now p.right.now p.stimulus.now r) (sym c.load_end.ensures)
    (left_ends held before now p.left.now p.right.now p.stimulus.now c.in-Err.error c.in-Err.ensures.err)

pub returns-in-Err-load-clause-read : goal.returns-in-Err-load-clause-read
returns-in-Err-load-clause-read g c =
    let p = c.args.paths.now in
    let right = p.right.now in
    let held = g.S.Shelf.held c.args.shelf.now in
    let before = g.S.Shelf.faults c.args.shelf.now in
    let middle = g.S.Shelf.faults c.load.new.shelf in
    let now = g.S.Shelf.faults c.load-2.new.shelf in
    subst (λ (r : Result Finding Stop). Ends held before now p.left.now right p.stimulus.now r) (sym c.load_end-in-Err-load.ensures)
    (right_ends held before now p.left.now right p.stimulus.now (is_loaded (held p.left.now) c.in-Ok.a c.in-Ok.ensures.ok) c.in-Err-load.error
    (later_fails (g.S.Shelf.held c.load.new.shelf right) (held right) (before right) (middle right) (now right) c.in-Err-load.error (c.load.ensures.keeps right) (c.load.ensures.later right) c.in-Err-load.ensures.err))

pub returns-in-Err-load_stimulus-clause-read : goal.returns-in-Err-load_stimulus-clause-read
returns-in-Err-load_stimulus-clause-read g c =
    let p = c.args.paths.now in
    let right = p.right.now in
    let stimulus = p.stimulus.now in
    let held = g.S.Shelf.held c.args.shelf.now in
    let before = g.S.Shelf.faults c.args.shelf.now in
    let middle = g.S.Shelf.faults c.load.new.shelf in
    let last = g.S.Shelf.faults c.load-2.new.shelf in
    let now = g.S.Shelf.faults c.load_stimulus.new.shelf in
    let loads : IfSome (held right) (λ y. Loads y c.in-Ok-load.b) = subst (λ (o : Option (List ℕ)). IfSome o (λ y. Loads y c.in-Ok-load.b)) (c.load.ensures.keeps right) c.in-Ok-load.ensures.ok in
    subst (λ (r : Result Finding Stop). Ends held before now p.left.now right stimulus r) (sym c.stimulus_end.ensures)
    (over_ends held before now p.left.now right stimulus (is_loaded (held p.left.now) c.in-Ok.a c.in-Ok.ensures.ok) (is_loaded (held right) c.in-Ok-load.b loads) c.in-Err-load_stimulus.error
    (later_stimulus (g.S.Shelf.held c.load-2.new.shelf stimulus) (held stimulus) (before stimulus) (last stimulus) (now stimulus) c.in-Err-load_stimulus.error (c.load-2.ensures.keeps stimulus ∙ c.load.ensures.keeps stimulus)
    (grown (before stimulus) (middle stimulus) (last stimulus) (c.load.ensures.later stimulus) (c.load-2.ensures.later stimulus)) c.in-Err-load_stimulus.ensures.err))
