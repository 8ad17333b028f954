-- The literals have two values.
use Rattle.std.proofs.Common.{List, ap, ◌∙◌, arith}
use Rattle.aig.specs.declared.node.Node.{Node}
use Rattle.aig.specs.Values.{node_bits, assigned}
use Rattle.word_sums.proofs.DifferLemmas.{differ-here, beq-apart}
use Rattle.word_sums.proofs.difference.differ_by.Goals as goal

pub returns-then-x-y : goal.returns-then-x-y
returns-then-x-y c = λ yes.
    differ-here c.args.graph.now c.args.left.now c.args.right.now c.args.bits.now c.node_bits.new.scratch c.loop-i.i _ _ c.lit_bit-x.result c.lit_bit-y.result c.loop-i-test.true (omega arith)
    (c.node_bits.ensures ∙ ap (λ (g : List Node). node_bits g (assigned c.args.bits.now)) c.nodes.ensures.nodes) c.lit_bit-x.ensures c.lit_bit-y.ensures (beq-apart c.lit_bit-x.result c.lit_bit-y.result c.if-x-y.true)
