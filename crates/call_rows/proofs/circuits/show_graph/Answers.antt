use Rattle.circuit_theory.specs.declared.Mode.TheVariants.{Plain}
use Rattle.call_rows.proofs.circuits.show_graph.Goals as goal

pub show_outputs-requires : goal.show_outputs-requires
show_outputs-requires c = c.in-Ok-new.ensures.in_mode Plain c.in-Ok.ensures.marks

pub show_cycle-requires-clause-graph : goal.show_cycle-requires-clause-graph
show_cycle-requires-clause-graph c = c.in-Ok-new.ensures.in_mode Plain c.in-Ok.ensures.marks
