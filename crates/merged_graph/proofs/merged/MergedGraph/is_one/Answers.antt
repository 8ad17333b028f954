-- By the literals of the list.
use Rattle.std.proofs.Common.{List, sym, subst}
use Rattle.aig.specs.declared.node.Lit.{Lit}
use Rattle.swept_queries.specs.node_agreement.Standing.{AreStandIns}
use Rattle.merged_graph.proofs.merged.MergedGraph.is_one.Goals as goal

pub returns : goal.returns
returns c = λ e g is. c.is_one.ensures e g c.args.self.now.graph (subst (λ (lits : List Lit). AreStandIns g c.args.self.now.graph lits) (sym c.as_slice.ensures) is.stand)
