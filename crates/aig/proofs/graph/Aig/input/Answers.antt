use Rattle.std.proofs.Common.{List, subst}
use Rattle.aig.specs.declared.node.Node.{Node}
use Rattle.aig.specs.declared.node.Node.TheVariants.{Input}
use Rattle.aig.specs.Graph.{Grows}
use Rattle.aig.proofs.Meaning.{value-grows}
use Rattle.aig.proofs.CoverMeaning.{value-lit}
use Rattle.aig.proofs.Insert.{lit-within}
use Rattle.aig.proofs.graph.Aig.input.Goals as goal

pub returns-clause-value : goal.returns-clause-value
returns-clause-value c = λ a. value-lit c.insert.new.nodes c.insert.ensures.graph a (Input c.args.var) c.in_ok-lit.lit.0 c.in_ok-lit.ensures.here

pub returns-clause-older : goal.returns-clause-older
returns-clause-older c = value-grows c.args.self.now c.insert.new.nodes (subst (λ (k : List Node). Grows k c.insert.new.nodes) c.self.view_is c.insert.ensures.grows)

pub returns-clause-within : goal.returns-clause-within
returns-clause-within c = lit-within c.insert.new.nodes (Input c.args.var) c.in_ok-lit.lit.0 c.in_ok-lit.ensures.here

pub returns-clause-grows : goal.returns-clause-grows
returns-clause-grows c = subst (λ (k : List Node). Grows k c.insert.new.nodes) c.self.view_is c.insert.ensures.grows
