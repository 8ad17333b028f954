-- The places of the cone.
use Rattle.std.proofs.Common.{◌∙◌}
use Rattle.latch_kinds.specs.unate_enable.Cones.{out_of_latch, data_of_latch}
use Rattle.latch_kinds.proofs.unate_enable.Inside.{inside_of_reached}
use Rattle.latch_kinds.proofs.unate_enable.recovery.ask.Goals as goal

pub ask_over-requires-clause-places : goal.ask_over-requires-clause-places
ask_over-requires-clause-places c = let are = c.in_ok-places.ensures in (are.0, are.1, c.as_slice.ensures ∙ are.2)

pub returns-then-shown : goal.returns-then-shown
returns-then-shown c = c.in_ok-shown.ensures.enabled c.if-shown.true

pub is_shown-requires : goal.is_shown-requires
is_shown-requires c = record {
  latch = c.requires.latch;
  inside = inside_of_reached c.args.net.now (data_of_latch c.args.net.now c.args.latch) (out_of_latch c.args.net.now c.args.latch) c.args.signals.now c.requires.reached;
  own = c.requires.own;
}
