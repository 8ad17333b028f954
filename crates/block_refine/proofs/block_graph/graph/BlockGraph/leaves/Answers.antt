-- The net's own leaves.
use Rattle.std.proofs.Common.{ℕ, Vec, Global, sym, subst}
use Rattle.std.specs.Prelude.{IfOk}
use Rattle.block_refine.specs.declared.block_graph.nets.NetSignal.{NetSignal}
use Rattle.block_refine.specs.block_graph.Graph.{number_of}
use Rattle.block_refine.specs.block_graph.Comparing.{AreLeavesOf}
use Rattle.block_refine.proofs.block_graph.graph.BlockGraph.leaves.Goals as goal

pub returns-in-Left : goal.returns-in-Left
returns-in-Left c = subst (λ (s : NetSignal). IfOk c.leaves.result (λ (found : Vec ℕ Global). AreLeavesOf c.args.nets.now c.args.self.now (number_of s) found.items)) (sym c.in-Left.is) c.leaves.ensures

pub returns-in-Right : goal.returns-in-Right
returns-in-Right c = subst (λ (s : NetSignal). IfOk c.leaves-in-Right.result (λ (found : Vec ℕ Global). AreLeavesOf c.args.nets.now c.args.self.now (number_of s) found.items)) (sym c.in-Right.is) c.leaves-in-Right.ensures
