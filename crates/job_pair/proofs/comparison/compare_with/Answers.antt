use Rattle.std.proofs.Common.{inl, inr}
use Rattle.job_pair.proofs.Finds.{no_fault}
use Rattle.job_pair.proofs.comparison.compare_with.Goals as goal

pub returns-in-Ok-clause-found : goal.returns-in-Ok-clause-found
returns-in-Ok-clause-found g c = inr (c.in-Ok.b, c.in-Ok.ensures.ok, c.compare_nets.ensures)

pub returns-in-Ok-clause-served : goal.returns-in-Ok-clause-served
returns-in-Ok-clause-served g c right = no_fault c.args.comparison.now.pair.now c.args.comparison.now.settings c.args.a.now c.in-Ok.b c.compare_nets.result c.compare_nets.ensures

pub returns-in-Err-clause-found : goal.returns-in-Err-clause-found
returns-in-Err-clause-found g c = inl (c.in-Err.error, c.in-Err.ensures.err, c.load_end.ensures)
