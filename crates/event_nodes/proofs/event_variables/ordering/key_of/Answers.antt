-- The place of the variable gives its key.
use Rattle.std.proofs.Common.{refl, arith}
use Rattle.event_nodes.proofs.event_variables.Sorting.{key_is}
use Rattle.event_nodes.proofs.event_variables.ordering.key_of.Goals as goal

pub returns : goal.returns
returns c = key_is c.args.events.now c.args.variable c.place-input.result _ c.place-input.ensures refl refl c.in_ok-path.ensures (omega (arith, c.len.ensures))
