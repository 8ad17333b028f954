-- A's latches and then B's.
use Rattle.std.proofs.Common.{◌∙◌, List, length, ap, subst, arith}
use Rattle.std.specs.Prelude.{IfOk}
use Rattle.sec_base.specs.declared.basics.Init.{Init}
use Rattle.flat_net.specs.declared.parts.LatchAt.{LatchAt}
use Rattle.block_refine.specs.latch_blocks.Blocks.{IsByStarts}
use Rattle.block_refine.proofs.block_graph.Pushed.{both_sides}
use Rattle.block_refine.proofs.starts.by_starts.Goals as goal

pub initial_blocks-requires : goal.initial_blocks-requires
initial_blocks-requires c =
    let made =
    both_sides (λ (k : LatchAt). k.init) (λ (k : LatchAt). k.init) c.new-made.result.items c.put_starts.new.made.items c.put_starts-2.new.made.items c.latches.result.now c.latches-2.result.now c.args.left.now.latches c.args.right.now.latches c.new-made.ensures.items
    c.latches.ensures c.latches-2.ensures c.in_ok-put_starts.ensures c.in_ok-put_starts-2.ensures in
    let same = ap length (c.deref.ensures.value ∙ made) in
    omega (arith, same, c.requires)

pub returns : goal.returns
returns c =
    let made =
    both_sides (λ (k : LatchAt). k.init) (λ (k : LatchAt). k.init) c.new-made.result.items c.put_starts.new.made.items c.put_starts-2.new.made.items c.latches.result.now c.latches-2.result.now c.args.left.now.latches c.args.right.now.latches c.new-made.ensures.items
    c.latches.ensures c.latches-2.ensures c.in_ok-put_starts.ensures c.in_ok-put_starts-2.ensures in
    subst (λ (starts : List Init). IfOk c.initial_blocks.result (IsByStarts starts)) (c.deref.ensures.value ∙ made) c.initial_blocks.ensures
