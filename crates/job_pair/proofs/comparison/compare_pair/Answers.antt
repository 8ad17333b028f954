use Rattle.std.proofs.Common.{sym, subst, Result}
use Rattle.job_base.specs.declared.finding.Finding.{Finding}
use Rattle.job_base.specs.declared.finding.Stop.{Stop}
use Rattle.job_pair.specs.Ends.{PairFound}
use Rattle.job_pair.proofs.Finds.{left_ends, beside_found}
use Rattle.job_pair.proofs.comparison.compare_pair.Goals as goal

pub returns-in-Ok-clause-found : goal.returns-in-Ok-clause-found
returns-in-Ok-clause-found g c =
    let left = c.args.comparison.now.left.now in
    let right = c.args.comparison.now.right.now in
    let pair = c.args.comparison.now.pair.now in
    let settings = c.args.comparison.now.settings in
    let held = g.S.Shelf.held c.args.shelf.now in
    let before = g.S.Shelf.faults c.args.shelf.now in
    let middle = g.S.Shelf.faults c.load.new.shelf right in
    let now = g.S.Shelf.faults c.compare_with.new.shelf in
    beside_found held before now pair settings left right c.in-Ok.a (g.S.Shelf.held c.load.new.shelf right) middle c.compare_with.result c.in-Ok.ensures.ok (c.load.ensures.keeps right) (c.load.ensures.later right) c.compare_with.ensures.found

pub returns-in-Err-clause-found : goal.returns-in-Err-clause-found
returns-in-Err-clause-found g c =
    let left = c.args.comparison.now.left.now in
    let right = c.args.comparison.now.right.now in
    let pair = c.args.comparison.now.pair.now in
    let settings = c.args.comparison.now.settings in
    let held = g.S.Shelf.held c.args.shelf.now in
    let before = g.S.Shelf.faults c.args.shelf.now in
    let now = g.S.Shelf.faults c.load.new.shelf in
    subst (λ (r : Result Finding Stop). PairFound held before now pair settings left right r) (sym c.load_end.ensures) (left_ends held before now pair settings left right c.in-Err.error c.in-Err.ensures.err)
