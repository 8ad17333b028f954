use Rattle.aiger_read.proofs.Making.{made_nothing}
use Rattle.aiger_read.proofs.finish.make.Goals as goal

pub complete-requires-clause-made : goal.complete-requires-clause-made
complete-requires-clause-made c = made_nothing c.args.plan.now.file.now c.args.plan.now.order.now c.in_ok-assembly.assembly.maker c.in_ok-assembly.assembly.signals.items c.in_ok-assembly.ensures.net c.in_ok-assembly.ensures.signals
