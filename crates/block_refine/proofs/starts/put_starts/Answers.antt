-- One latch more.
use Rattle.std.proofs.Common.{◌∙◌, ◌++◌, List, map, ap}
use Rattle.std.proofs.lemmas.List.{take_all}
use Rattle.flat_net.specs.declared.parts.LatchAt.{LatchAt}
use Rattle.block_refine.proofs.block_graph.Pushed.{pushed_none, pushed_more}
use Rattle.block_refine.proofs.starts.put_starts.Goals as goal

pub loop-latch-init : goal.loop-latch-init
loop-latch-init c = pushed_none (λ (k : LatchAt). k.init) c.args.made.now.items c.args.latches.now

pub loop-latch-preserved : goal.loop-latch-preserved
loop-latch-preserved c = pushed_more (λ (k : LatchAt). k.init) c.args.made.now.items c.loop-latch.made.items c.push.new.self.items c.args.latches.now c.loop-latch.latch-index c.latch-item.result c.loop-latch-test.true c.latch-item.is c.loop-latch.invariant c.in_ok-push.ensures.items

pub returns : goal.returns
returns c = c.loop-latch.invariant ∙ ap (λ (ls : List LatchAt). c.args.made.now.items ++ map (λ (k : LatchAt). k.init) ls) (take_all c.loop-latch.latch-index c.args.latches.now c.loop-latch-test.false)
