use Rattle.circuit_theory.specs.declared.Mode.TheVariants.{Plain}
use Rattle.job_check.proofs.compare_under.comparison.compare_met.Given as goal

abbrev pub ghost-choose : goal.ghost-choose
ghost-choose a = Plain
