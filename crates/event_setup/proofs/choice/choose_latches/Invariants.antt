use Rattle.circuit_theory.specs.declared.Mode.TheVariants.{Event}
use Rattle.event_setup.proofs.choice.choose_latches.Given as goal

abbrev pub ghost-choose : goal.ghost-choose
ghost-choose a = Event
