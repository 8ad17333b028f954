use Rattle.circuit_theory.specs.declared.Mode.TheVariants.{Plain}
use Rattle.job_cert.proofs.pair_clauses.clauses.clauses_of_matching.Given as goal

abbrev pub ghost-choose : goal.ghost-choose
ghost-choose a = Plain
