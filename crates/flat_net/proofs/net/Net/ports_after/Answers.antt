-- The ports are those of the net.
use Rattle.std.proofs.Common.{◌∙◌, ◌++◌, List, map, ap}
use Rattle.flat_net.specs.declared.parts.Port.{Port}
use Rattle.flat_net.specs.Cut.{latch_at, as_input, as_output}
use Rattle.flat_net.proofs.net.Net.ports_after.Goals as goal

pub returns-clause-inputs : goal.returns-clause-inputs
returns-clause-inputs c = c.in_ok-inputs.ensures ∙ ap (λ (ps : List Port). ps ++ map (λ j. as_input (latch_at c.args.self.now j)) c.args.exposed.now) c.inputs.ensures

pub returns-clause-outputs : goal.returns-clause-outputs
returns-clause-outputs c = c.in_ok-outputs.ensures ∙ ap (λ (ps : List Port). ps ++ map (λ j. as_output (latch_at c.args.self.now j)) c.args.exposed.now) c.outputs.ensures
