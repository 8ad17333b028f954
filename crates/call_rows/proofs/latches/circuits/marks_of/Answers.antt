-- What the latches are gives the bits, and the graph tells that there is no cycle.
use Rattle.std.proofs.Common.{◌∙◌, ap, length, sym, subst}
use Rattle.circuit_theory.specs.declared.Mode.TheVariants.{Event}
use Rattle.signal_graph.specs.inner_cone.latch_cone.Kinds.{AreKindsIn}
use Rattle.call_rows.proofs.latches.circuits.marks_of.Goals as goal

pub new-requires : goal.new-requires
new-requires c = c.in-Ok-enabled_among.ensures.each ∙ (ap length c.as_slice.ensures ∙ c.in-Ok.ensures.0.each)

pub have_depths-requires : goal.have_depths-requires
have_depths-requires c = c.in-Ok-new.ensures.in_mode Event (c.in-Ok-enabled_among.ensures.marks Event c.args.net.now (subst (AreKindsIn Event c.args.net.now) (sym c.as_slice.ensures) c.in-Ok.ensures.0))

pub returns-then-have_depths : goal.returns-then-have_depths
returns-then-have_depths c = record {
  each = c.in-Ok-enabled_among.ensures.each ∙ (ap length c.as_slice.ensures ∙ c.in-Ok.ensures.0.each);
  marks = c.in-Ok-enabled_among.ensures.marks Event c.args.net.now (subst (AreKindsIn Event c.args.net.now) (sym c.as_slice.ensures) c.in-Ok.ensures.0);
  depths = c.have_depths.ensures c.if-have_depths.true;
}
