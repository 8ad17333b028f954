use Rattle.std.proofs.Common.{◌≡◌, ◌*◌, subst, List}
use Rattle.aig.specs.declared.node.Node.{Node}
use Rattle.aig.specs.Values.{value, node_value}
use Rattle.aig.proofs.Meaning.{value-node}
use Rattle.aig.proofs.graph.Aig.node.Goals as goal

pub returns-clause-value : goal.returns-clause-value
returns-clause-value c = λ a.
    subst (λ (g : List Node). value g a (2 * c.args.n) ≡ node_value g a c.key.result) c.self.view_is (value-node c.self.inside.nodes c.self.invariant.0.ordered c.args.n c.key.result a c.key.ensures)
