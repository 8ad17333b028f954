use Rattle.std.proofs.Common.{sym, subst, Result}
use Rattle.job_base.specs.declared.finding.Finding.{Finding}
use Rattle.job_base.specs.declared.finding.Stop.{Stop}
use Rattle.job_pair.specs.job_renamed.Ends.{RenamedFound}
use Rattle.job_pair.proofs.job_renamed.Finds.{left_ends, beside_found}
use Rattle.job_pair.proofs.job_renamed.comparison.compare_renamed.Goals as goal

pub returns-in-Ok-clause-found : goal.returns-in-Ok-clause-found
returns-in-Ok-clause-found g c =
    let k = c.args.comparison.now in
    let held = g.S.Shelf.held c.args.shelf.now in
    let before = g.S.Shelf.faults c.args.shelf.now in
    let middle = g.S.Shelf.faults c.load.new.shelf in
    let now = g.S.Shelf.faults c.compare_with.new.shelf in
    beside_found held before now k.settings k.left.now k.right.now k.pairs.now c.in-Ok.a (g.S.Shelf.held c.load.new.shelf) middle c.compare_with.result c.in-Ok.ensures.ok c.load.ensures.keeps c.load.ensures.later c.compare_with.ensures.found

pub returns-in-Err-clause-found : goal.returns-in-Err-clause-found
returns-in-Err-clause-found g c =
    let k = c.args.comparison.now in
    let held = g.S.Shelf.held c.args.shelf.now in
    let before = g.S.Shelf.faults c.args.shelf.now in
    let now = g.S.Shelf.faults c.load.new.shelf in
    subst (λ (r : Result Finding Stop). RenamedFound held before now k.settings k.left.now k.right.now k.pairs.now r) (sym c.load_end.ensures) (left_ends held before now k.settings k.left.now k.right.now k.pairs.now c.in-Err.error c.in-Err.ensures.err)
