use Rattle.circuit_theory.specs.declared.Mode.TheVariants.{Event}
use Rattle.event_setup.proofs.choice.event_graph.Goals as goal

pub returns : goal.returns
returns c = c.new.ensures.in_mode Event c.requires.marks
