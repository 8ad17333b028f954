-- One latch more.
use Rattle.std.proofs.Common.{◌∙◌, ◌++◌, List, map, ap}
use Rattle.std.proofs.lemmas.List.{take_all}
use Rattle.flat_net.specs.declared.parts.LatchAt.{LatchAt}
use Rattle.block_refine.proofs.block_graph.Taken.{taken}
use Rattle.block_refine.proofs.block_graph.Pushed.{pushed_none}
use Rattle.block_refine.proofs.block_graph.nexts.put_nexts.Goals as goal

pub loop-latch-init : goal.loop-latch-init
loop-latch-init c = pushed_none (taken c.args.values.now c.args.lits.now) c.args.made.now.items c.args.latches.now

pub returns : goal.returns
returns c = c.loop-latch.invariant ∙ ap (λ (ls : List LatchAt). c.args.made.now.items ++ map (taken c.args.values.now c.args.lits.now) ls) (take_all c.loop-latch.latch-index c.args.latches.now c.loop-latch-test.false)
