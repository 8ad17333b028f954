use Rattle.std.proofs.Common.{take}
use Rattle.std.specs.List.{AllZip}
use Rattle.aig.specs.lane_eval.Renaming.{IsRenamed}
use Rattle.aig.proofs.lane_eval.places.renamed.Given as goal

abbrev pub invariant-loop-node : goal.invariant-loop-node
invariant-loop-node l = AllZip (IsRenamed l.vars) (take l.node-index l.nodes) l.new.items
