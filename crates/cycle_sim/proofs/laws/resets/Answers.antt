use Rattle.cycle_sim.proofs.Starts.{from_initial_values, by_initial_values}
use Rattle.cycle_sim.proofs.laws.resets.Goals as goal

pub returns-clause-starts : goal.returns-clause-starts
returns-clause-starts c = λ free rows run fits r. from_initial_values c.args.net.now rows run free fits r

pub returns-clause-each : goal.returns-clause-each
returns-clause-each c = λ power rows run r z. by_initial_values c.args.net.now rows run power r z
