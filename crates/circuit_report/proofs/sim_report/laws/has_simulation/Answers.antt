use Rattle.circuit_report.proofs.sim_report.Reports.{simulation_exists, one_simulation, one_report, simulated_resets}
use Rattle.circuit_report.proofs.sim_report.laws.has_simulation.Goals as goal

pub returns-clause-exists : goal.returns-clause-exists
returns-clause-exists c = λ power reset fits. simulation_exists c.args.net.now c.keeps.ensures.sound c.args.stimulus.now.names c.args.stimulus.now.rows c.args.stimulus.now.distinct c.args.stimulus.now.fit power reset fits

pub returns-clause-one : goal.returns-clause-one
returns-clause-one c = λ power reset run other fits first second t p early within.
    one_simulation c.args.net.now c.keeps.ensures.sound c.args.stimulus.now.names c.args.stimulus.now.rows c.args.stimulus.now.distinct c.args.stimulus.now.fit power reset fits run other first second t p early within

pub returns-clause-report : goal.returns-clause-report
returns-clause-report c = λ mode power reset text other fits first second.
    one_report c.args.net.now c.keeps.ensures.sound c.args.stimulus.now.names c.args.stimulus.now.rows c.args.stimulus.now.distinct c.args.stimulus.now.fit power reset fits mode text other first second

pub returns-clause-resets : goal.returns-clause-resets
returns-clause-resets c = λ power run fits s. simulated_resets c.args.net.now c.args.stimulus.now.names c.args.stimulus.now.rows c.args.stimulus.now.fit power fits run s
