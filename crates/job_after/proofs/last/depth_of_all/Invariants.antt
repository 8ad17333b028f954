use Rattle.circuit_theory.specs.declared.Mode.TheVariants.{Plain}
use Rattle.job_after.proofs.last.depth_of_all.Given as goal

abbrev pub ghost-choose : goal.ghost-choose
ghost-choose a = Plain
