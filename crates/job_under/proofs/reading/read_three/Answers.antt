-- One of the files isn't loaded, those before it being so.
use Rattle.std.specs.Prelude.{IfSome}
use Rattle.std.proofs.Common.{◌≡◌, ◌∙◌, ◌≤◌, ℕ, List, sym, subst, arith, Option, Result}
use Rattle.job_base.specs.sec_files.Loading.{Loads}
use Rattle.job_base.specs.declared.finding.Finding.{Finding}
use Rattle.job_base.specs.declared.finding.Stop.{Stop}
use Rattle.job_base.specs.Ends.{EndsBy}
use Rattle.job_base.specs.sec_files.job_files.Reading.{Held, ReadFailed}
use Rattle.job_base.proofs.sec_files.job_files.Loading.{later_fails}
use Rattle.job_base.proofs.sec_files.job_files.Reading.{is_loaded}
use Rattle.job_under.specs.Found.{under_paths, IsUnread}
use Rattle.job_under.proofs.Unread.{left_ends, right_ends, third_ends}
use Rattle.job_under.proofs.reading.read_three.Goals as goal

abbrev Ends : Held → (List ℕ → ℕ) → (List ℕ → ℕ) → List ℕ → List ℕ → List ℕ → Result Finding Stop → Type 0
Ends held before now left right assumed r = EndsBy (IsUnread (held left) (held right) (held assumed)) (ReadFailed held before now (under_paths left right assumed)) r

grown : (a b c : ℕ) → a ≤ b → b ≤ c → a ≤ c
grown a b c p q = omega (arith, p, q)

pub returns-in-Err-clause-read : goal.returns-in-Err-clause-read
returns-in-Err-clause-read g c =
    let p = c.args.paths.now in
    let held = g.S.Shelf.held c.args.shelf.now in
    let before = g.S.Shelf.faults c.args.shelf.now in
    let now = g.S.Shelf.faults c.load.new.shelf in
    subst (λ (r : Result Finding Stop). Ends held before now p.left.now p.right.now p.assumed.now r) (sym c.load_end.ensures)
    (left_ends held before now p.left.now p.right.now p.assumed.now c.in-Err.error c.in-Err.ensures.err)

pub returns-in-Err-load-clause-read : goal.returns-in-Err-load-clause-read
returns-in-Err-load-clause-read g c =
    let p = c.args.paths.now in
    let right = p.right.now in
    let held = g.S.Shelf.held c.args.shelf.now in
    let before = g.S.Shelf.faults c.args.shelf.now in
    let middle = g.S.Shelf.faults c.load.new.shelf in
    let now = g.S.Shelf.faults c.load-2.new.shelf in
    subst (λ (r : Result Finding Stop). Ends held before now p.left.now right p.assumed.now r) (sym c.load_end-in-Err-load.ensures)
    (right_ends held before now p.left.now right p.assumed.now (is_loaded (held p.left.now) c.in-Ok.a c.in-Ok.ensures.ok) c.in-Err-load.error
    (later_fails (g.S.Shelf.held c.load.new.shelf right) (held right) (before right) (middle right) (now right) c.in-Err-load.error (c.load.ensures.keeps right) (c.load.ensures.later right) c.in-Err-load.ensures.err))

pub returns-in-Err-load-2-clause-read : goal.returns-in-Err-load-2-clause-read
returns-in-Err-load-2-clause-read g c =
    let p = c.args.paths.now in
    let right = p.right.now in
    let assumed = p.assumed.now in
    let held = g.S.Shelf.held c.args.shelf.now in
    let before = g.S.Shelf.faults c.args.shelf.now in
    let middle = g.S.Shelf.faults c.load.new.shelf in
    let last = g.S.Shelf.faults c.load-2.new.shelf in
    let now = g.S.Shelf.faults c.load-3.new.shelf in
    let loads : IfSome (held right) (λ y. Loads y c.in-Ok-load.b) = subst (λ (o : Option (List ℕ)). IfSome o (λ y. Loads y c.in-Ok-load.b)) (c.load.ensures.keeps right) c.in-Ok-load.ensures.ok in
    subst (λ (r : Result Finding Stop). Ends held before now p.left.now right assumed r) (sym c.load_end-in-Err-load-2.ensures)
    (third_ends held before now p.left.now right assumed (is_loaded (held p.left.now) c.in-Ok.a c.in-Ok.ensures.ok) (is_loaded (held right) c.in-Ok-load.b loads) c.in-Err-load-2.error
    (later_fails (g.S.Shelf.held c.load-2.new.shelf assumed) (held assumed) (before assumed) (last assumed) (now assumed) c.in-Err-load-2.error (c.load-2.ensures.keeps assumed ∙ c.load.ensures.keeps assumed)
    (grown (before assumed) (middle assumed) (last assumed) (c.load.ensures.later assumed) (c.load-2.ensures.later assumed)) c.in-Err-load-2.ensures.err))
