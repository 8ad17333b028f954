use Rattle.net_assembly.specs.Built.{unclocked, latch_outs}
use Rattle.flatten.proofs.MadeNets.{distinct_front}
use Rattle.flatten.proofs.assemble.Assembly.add_sources.Goals as goal

pub add_inputs-requires-clause-distinct : goal.add_inputs-requires-clause-distinct
add_inputs-requires-clause-distinct c = distinct_front (unclocked c.args.clock c.args.flat.now.inputs) (latch_outs c.args.flat.now.statements) c.requires.distinct
