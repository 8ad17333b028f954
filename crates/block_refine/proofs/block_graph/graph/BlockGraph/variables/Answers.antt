-- The variables of both signals as one list.
use Rattle.std.proofs.Common.{ℕ, List, subst}
use Rattle.std.proofs.lemmas.Result.{IfOk-weaker}
use Rattle.block_refine.specs.latch_blocks.Signals.{AreMerged}
use Rattle.block_refine.specs.block_graph.Graph.{number_of}
use Rattle.block_refine.specs.block_graph.Comparing.{AreOwn}
use Rattle.block_refine.proofs.block_graph.Queries.{own_is}
use Rattle.block_refine.proofs.block_graph.graph.BlockGraph.variables.Goals as goal

pub returns : goal.returns
returns c =
    let n = c.args.nets.now in
    let g = c.args.self.now in
    IfOk-weaker c.merged.result (AreMerged c.in_ok-own.own.items c.deref.result.now) (AreOwn n g (number_of c.args.left) (number_of c.args.right))
    (λ (all : List ℕ) merged. own_is n g c.requires.graph (number_of c.args.left) (number_of c.args.right) c.in_ok-own.own.items c.in_ok-other.other.items all c.in_ok-own.ensures c.in_ok-other.ensures
    (subst (λ (xs : List ℕ). AreMerged c.in_ok-own.own.items xs all) c.deref.ensures.value merged)) c.merged.ensures
