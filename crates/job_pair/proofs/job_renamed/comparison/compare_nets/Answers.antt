use Rattle.std.proofs.Common.{inl, inr}
use Rattle.job_pair.proofs.job_renamed.Designs.{renamed_comparable}
use Rattle.job_pair.proofs.job_renamed.comparison.compare_nets.Goals as goal

pub compare-compared-requires-clause-right : goal.compare-compared-requires-clause-right
compare-compared-requires-clause-right c = let h = c.in-Ok.ensures.ok in renamed_comparable h.0 c.args.b.now c.in-Ok.right h.2 c.requires.right

pub returns-in-Ok : goal.returns-in-Ok
returns-in-Ok c = inr (c.compare-compared.result, (c.in-Ok.right, c.in-Ok.ensures.ok, c.compare-compared.ensures), c.compare_end.ensures)

pub returns-in-Err : goal.returns-in-Err
returns-in-Err c = inl (c.in-Err.stop, c.in-Err.ensures.err, c.pairs_end.ensures)
