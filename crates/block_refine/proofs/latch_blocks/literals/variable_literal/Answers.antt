-- The variable's node.
use Rattle.block_refine.proofs.latch_blocks.GateLits.{variable_lit}
use Rattle.block_refine.proofs.latch_blocks.Growing.{lits_grow}
use Rattle.block_refine.proofs.latch_blocks.literals.variable_literal.Goals as goal

pub returns-clause-here : goal.returns-clause-here
returns-clause-here c = λ n w s has. variable_lit n w c.input.new.self c.keeps-2.ensures.graph s c.args.variable c.in_ok-lit.lit has c.in_ok-lit.ensures.here c.in_ok-lit.ensures.within c.in_ok-lit.ensures.value

pub returns-clause-stay : goal.returns-clause-stay
returns-clause-stay c = λ n w lits are. lits_grow n w c.args.aig.now c.input.new.self c.keeps.ensures.graph c.input.ensures.grows lits are
