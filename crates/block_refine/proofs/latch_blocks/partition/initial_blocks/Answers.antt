-- Each latch in its turn.
use Rattle.std.proofs.Common.{◌∙◌, ◌+◌, length, sym, ap, arith}
use Rattle.block_refine.specs.latch_blocks.Numbers.{start_key}
use Rattle.block_refine.proofs.latch_blocks.Numbering.{numbered_none}
use Rattle.block_refine.proofs.latch_blocks.Keys.{starts_is}
use Rattle.block_refine.proofs.latch_blocks.partition.initial_blocks.Goals as goal

pub loop-j-init : goal.loop-j-init
loop-j-init c = record { numbered = numbered_none (start_key c.args.starts.now) c.new-table.result c.new-blocks.result c.new-table.ensures c.new-blocks.ensures; each = ap length c.new-blocks.ensures }

pub put-requires : goal.put-requires
put-requires c = omega (arith, c.loop-j.invariant.numbered.few, c.loop-j.invariant.each, c.loop-j-test.true, c.requires)

pub loop-j-preserved : goal.loop-j-preserved
loop-j-preserved c =
    let kind = c.key-kind.ensures.kind in
    let rest = c.key-kind.ensures.rest in
    record {
      numbered = c.in_ok-put.ensures.numbered (start_key c.args.starts.now) (ap (start_key c.args.starts.now) c.loop-j.invariant.each ∙ sym (λ i. (kind i, rest i))) c.loop-j.invariant.numbered;
      each = c.in_ok-put.ensures.one ∙ ap (λ k. k + 1) c.loop-j.invariant.each;
    }

pub returns : goal.returns
returns c = starts_is c.args.starts.now c.loop-j.table c.loop-j.blocks (let each = c.loop-j.invariant.each in omega (arith, c.loop-j-test.false, c.loop-j.auto.j-end)) c.keeps.ensures c.loop-j.invariant.numbered
