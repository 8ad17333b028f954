use Rattle.circuit_theory.specs.declared.Mode.TheVariants.{Plain}
use Rattle.plain_check.proofs.comparison.compare_matching.Given as goal

abbrev pub ghost-choose : goal.ghost-choose
ghost-choose a = Plain
