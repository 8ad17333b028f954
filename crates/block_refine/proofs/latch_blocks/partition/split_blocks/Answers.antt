-- Each latch in its turn.
use Rattle.std.proofs.Common.{◌∙◌, ◌+◌, length, get_or, sym, ap, arith}
use Rattle.block_refine.specs.latch_blocks.Numbers.{split_key}
use Rattle.block_refine.proofs.latch_blocks.Numbering.{numbered_none}
use Rattle.block_refine.proofs.latch_blocks.Keys.{split_is}
use Rattle.block_refine.proofs.latch_blocks.partition.split_blocks.Goals as goal

pub loop-j-init : goal.loop-j-init
loop-j-init c = record { numbered = numbered_none (split_key c.args.blocks.now c.args.bits.now) c.new-table.result c.new-fine.result c.new-table.ensures c.new-fine.ensures; each = ap length c.new-fine.ensures }

pub put-requires : goal.put-requires
put-requires c = omega (arith, c.loop-j.invariant.numbered.few, c.loop-j.invariant.each, c.loop-j-test.true, c.requires.few)

pub loop-j-preserved : goal.loop-j-preserved
loop-j-preserved c =
    let digit = c.digit.ensures in
    record {
      numbered = c.in_ok-put.ensures.numbered (split_key c.args.blocks.now c.args.bits.now) (ap (split_key c.args.blocks.now c.args.bits.now) c.loop-j.invariant.each ∙ sym (λ i. (get_or c.args.blocks.now c.loop-j.j 0, digit i))) c.loop-j.invariant.numbered;
      each = c.in_ok-put.ensures.one ∙ ap (λ k. k + 1) c.loop-j.invariant.each;
    }

pub returns : goal.returns
returns c = split_is c.args.blocks.now c.args.bits.now c.loop-j.table c.loop-j.fine (let each = c.loop-j.invariant.each in omega (arith, c.loop-j-test.false, c.loop-j.auto.j-end)) c.keeps.ensures c.loop-j.invariant.numbered
