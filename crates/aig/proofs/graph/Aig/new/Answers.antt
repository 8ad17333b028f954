use Rattle.std.proofs.Common.{List, Contains, sym, subst, arith}
use Rattle.aig.specs.declared.node.Node.{Node}
use Rattle.aig.specs.declared.node.Node.TheVariants.{Constant}
use Rattle.aig.proofs.graph.Aig.new.Goals as goal

pub put-requires : goal.put-requires
put-requires c = subst (λ (g : List Node). Contains g Constant → ⊥) (sym c.new-nodes.ensures) (λ there. absurd (omega (arith, there.1)))
