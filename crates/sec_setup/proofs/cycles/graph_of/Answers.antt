use Rattle.circuit_theory.specs.declared.Mode.TheVariants.{Plain}
use Rattle.sec_setup.proofs.cycles.graph_of.Goals as goal

pub returns : goal.returns
returns c = c.new.ensures.in_mode Plain c.in_ok-none.ensures.marks
