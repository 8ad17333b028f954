-- Both parts of the cone.
use Rattle.latch_kinds.proofs.unate_enable.Cones.{cone_from}
use Rattle.latch_kinds.proofs.unate_enable.sources.cone_among.Goals as goal

pub returns : goal.returns
returns c = cone_from c.args.net.now c.keeps.ensures.sound c.args.latch c.args.signals.now c.requires c.in_ok-inputs.inputs c.in_ok-latches.latches c.in_ok-inputs.ensures c.in_ok-latches.ensures
