-- Without a wanted last cycle.
use Rattle.job_after.proofs.Deepest.{last_of, endless_of}
use Rattle.job_after.proofs.last.last_cycle.Goals as goal

pub returns-in_ok-last-in-None : goal.returns-in_ok-last-in-None
returns-in_ok-last-in-None c = last_of c.args.a.now c.args.b.now c.args.wanted c.in_ok-last-in-None.last c.in-None.is c.in_ok-last-in-None.ensures

pub returns-in_err-last-in-None : goal.returns-in_err-last-in-None
returns-in_err-last-in-None c = endless_of c.args.a.now c.args.b.now c.args.wanted c.from_residual.result c.in_err-last-in-None.field-0.0 c.in-None.is c.from_residual.ensures.1 c.in_err-last-in-None.ensures
