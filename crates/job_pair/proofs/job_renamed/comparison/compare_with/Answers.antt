use Rattle.std.proofs.Common.{inl, inr}
use Rattle.job_pair.proofs.job_renamed.Finds.{later_text}
use Rattle.job_pair.proofs.job_renamed.comparison.compare_with.Goals as goal

pub returns-in-Ok-clause-found : goal.returns-in-Ok-clause-found
returns-in-Ok-clause-found g c =
    let k = c.args.comparison.now in
    let path = k.pairs.now in
    let held = g.S.Shelf.held c.args.shelf.now in
    let before = g.S.Shelf.faults c.args.shelf.now in
    let middle = g.S.Shelf.faults c.load.new.shelf in
    let now = g.S.Shelf.faults c.compare_both.new.shelf in
    inr (
      c.in-Ok.b,
      c.in-Ok.ensures.ok,
      later_text (g.S.Shelf.held c.load.new.shelf path) (held path) (before path) (middle path) (now path) c.args.a.now c.in-Ok.b k.settings c.compare_both.result (c.load.ensures.keeps path) (c.load.ensures.later path) c.compare_both.ensures.found,
    )

pub returns-in-Err-clause-found : goal.returns-in-Err-clause-found
returns-in-Err-clause-found g c = inl (c.in-Err.error, c.in-Err.ensures.err, c.load_end.ensures)
