-- What the latches are gives the bits.
use Rattle.std.proofs.Common.{◌∙◌, ap, length, sym, subst}
use Rattle.circuit_theory.specs.declared.Mode.TheVariants.{Event}
use Rattle.signal_graph.specs.inner_cone.latch_cone.Kinds.{AreKindsIn}
use Rattle.event_setup.proofs.Recovering.{recovered}
use Rattle.event_setup.proofs.enables.enabled_in.Goals as goal

pub returns-in_ok-enabled_among-in-Ok : goal.returns-in_ok-enabled_among-in-Ok
returns-in_ok-enabled_among-in-Ok c =
    let n = c.args.net.now in
    let found = c.in-Ok.ensures in
    recovered c.args.side n c.args.conflicts c.in-Ok.kinds c.in_ok-enabled_among-in-Ok.field-0 found (c.in_ok-enabled_among-in-Ok.ensures.each ∙ ap length c.as_slice.ensures)
    (c.in_ok-enabled_among-in-Ok.ensures.marks Event n (subst (AreKindsIn Event n) (sym c.as_slice.ensures) found.0))
