-- The pairs of the setup are those of the outputs, and no latch lies on a cycle.
use Rattle.job_after.proofs.Deepest.{setup_of, deepest_of, mismatched, cyclic, passed}
use Rattle.job_after.proofs.last.depth_of_all.Goals as goal

pub greatest_depth-requires : goal.greatest_depth-requires
greatest_depth-requires c = setup_of c.args.a.now c.args.b.now c.in_ok-setup.setup c.in_ok-setup.ensures c.in_ok-_uncut.ensures.broken

pub returns : goal.returns
returns c = deepest_of c.args.a.now c.args.b.now c.in_ok-setup.setup c.greatest_depth.result c.in_ok-setup.ensures c.in_ok-_uncut.ensures.broken c.greatest_depth.ensures

pub returns-in_err-shared : goal.returns-in_err-shared
returns-in_err-shared c =
    let e = c.in_err-shared.field-0.0 in
    passed c.args.a.now c.args.b.now c.from_residual.result e c.from_residual.ensures.1 (mismatched c.args.a.now c.args.b.now e c.in_err-shared.ensures.err)

pub returns-in_err-_uncut : goal.returns-in_err-_uncut
returns-in_err-_uncut c =
    let e = c.in_err-_uncut.field-0.0 in
    passed c.args.a.now c.args.b.now c.from_residual-in_err-_uncut.result e c.from_residual-in_err-_uncut.ensures.1 (cyclic c.args.a.now c.args.b.now e c.in_ok-shared.ensures.ok.0 c.in_err-_uncut.ensures)
