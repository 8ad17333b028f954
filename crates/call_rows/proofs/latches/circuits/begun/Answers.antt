-- The circuit keeps what a circuit keeps.
use Rattle.std.proofs.Common.{◌∙◌, ap, length, sym, subst}
use Rattle.call_rows.specs.Starts.{IsStart}
use Rattle.call_rows.proofs.Begun.{begun_circuit}
use Rattle.call_rows.proofs.latches.circuits.begun.Goals as goal

pub new-requires-clause-circuit : goal.new-requires-clause-circuit
new-requires-clause-circuit c =
    begun_circuit c.args.net c.args.enabled c.in_ok-order.order c.in_ok-classes.classes c.requires (c.in_ok-order.ensures.each ∙ ap length c.inputs.ensures) c.in_ok-order.ensures.once
    (c.in_ok-classes.ensures.each ∙ ap length c.latches.ensures)

pub returns : goal.returns
returns c = subst IsStart (sym c.new.ensures) (record { depths = c.requires.depths; none = c.in_ok-classes.ensures.none })
