use Rattle.event_setup.proofs.Bits.{left_in, marked_left}
use Rattle.flat_net.specs.Cut.{exposed_names}
use Rattle.event_setup.proofs.cutting.cut_net.Goals as goal

pub bits_left-requires-clause-left : goal.bits_left-requires-clause-left
bits_left-requires-clause-left c = left_in c.args.net.now c.in_ok-cut.cut c.args.positions.now c.in_ok-cut.ensures.parts

pub returns : goal.returns
returns c = record {
  parts = c.in_ok-cut.ensures.parts;
  circuit = c.in_ok-cut.ensures.circuit;
  marked = marked_left c.args.net.now c.in_ok-cut.cut (exposed_names c.args.net.now c.args.positions.now) c.keeps.ensures.sound c.in_ok-cut.ensures.circuit c.in_ok-enabled.enabled c.in_ok-enabled.ensures;
}
