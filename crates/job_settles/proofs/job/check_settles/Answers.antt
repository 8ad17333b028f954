use Rattle.std.proofs.Common.{ℕ, List, ◌∷◌, sym, subst, Result}
use Rattle.std.proofs.lemmas.List.Elements.{All-head, All-tail, All-weaker}
use Rattle.std.specs.Prelude.{option_map}
use Rattle.job_base.specs.declared.finding.Finding.{Finding}
use Rattle.job_base.specs.declared.finding.Stop.{Stop}
use Rattle.job_check.specs.check_meaning.check_found.Check.{Check, assumed_paths}
use Rattle.job_check.proofs.check_meaning.check_found.Finds.{left_ends}
use Rattle.job_settles.specs.Found.{SettlesFound}
use Rattle.job_settles.proofs.Finds.{beside_before, settles_beside_end, settles_left_ends}
use Rattle.job_settles.proofs.job.check_settles.Goals as goal

pub returns-in-Ok-clause-found : goal.returns-in-Ok-clause-found
returns-in-Ok-clause-found g c =
    let k = c.args.comparison.now in
    let assumed = option_map (λ path. path.now) k.assumed in
    let held = g.S.Shelf.held c.args.shelf.now in
    let before = g.S.Shelf.faults c.args.shelf.now in
    let now = g.S.Shelf.faults c.settle_with.new.shelf in
    settles_beside_end held before now k.left.now k.right.now k.settings c.in-Ok.a c.in-Ok.ensures.ok assumed c.settle_with.result
    (beside_before held (g.S.Shelf.held c.load.new.shelf) before (g.S.Shelf.faults c.load.new.shelf) now c.load.ensures.keeps c.load.ensures.later c.in-Ok.a k.settings k.right.now assumed c.settle_with.result c.settle_with.ensures.found)

pub returns-in-Err-clause-found : goal.returns-in-Err-clause-found
returns-in-Err-clause-found g c =
    let k = c.args.comparison.now in
    let assumed = option_map (λ path. path.now) k.assumed in
    let check : Check = record { left = k.left.now; right = k.right.now; settings = k.settings; assumed = assumed } in
    let held = g.S.Shelf.held c.args.shelf.now in
    let before = g.S.Shelf.faults c.args.shelf.now in
    let now = g.S.Shelf.faults c.load.new.shelf in
    subst (λ (r : Result Finding Stop). SettlesFound held before now check r) (sym c.load_end.ensures)
    (settles_left_ends held before now k.left.now k.right.now k.settings assumed _ c.in-Err.error (left_ends held before now k.left.now k.right.now k.settings assumed c.in-Err.error c.in-Err.ensures.err))

-- what is served at first is served behind A
pub returns-in-Ok-clause-served : goal.returns-in-Ok-clause-served
returns-in-Ok-clause-served g c all =
    let k = c.args.comparison.now in
    let thirds = assumed_paths (option_map (λ path. path.now) k.assumed) in
    let before : List ℕ → Type 0 = g.S.Shelf.serves c.args.shelf.now in
    let now : List ℕ → Type 0 = g.S.Shelf.serves c.load.new.shelf in
    let rest = All-weaker before now c.load.ensures.serving (k.right.now ∷ thirds) (All-tail before k.left.now (k.right.now ∷ thirds) all) in
    c.settle_with.ensures.served (All-head now k.right.now thirds rest) (All-tail now k.right.now thirds rest)
