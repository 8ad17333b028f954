use Rattle.cycle_sim.proofs.Runs.{run_exists, one_run}
use Rattle.cycle_sim.proofs.laws.has_run.Goals as goal

pub returns-clause-exists : goal.returns-clause-exists
returns-clause-exists c = run_exists c.args.net.now c.keeps.ensures.sound

pub returns-clause-one : goal.returns-clause-one
returns-clause-one c = one_run c.args.net.now c.keeps.ensures.sound
